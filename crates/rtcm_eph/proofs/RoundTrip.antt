-- Reading what is written, and writing what is read.
use Rattle.std.proofs.Common.{◌≡◌, ℕ, ◌+◌, ◌-◌, ◌%◌, ◌<◌, ◌≤◌, max, List, length, take, sym, ap, ◌∙◌, subst, inl, inr, true, rules, arith, Result, Ok, Err}
use Rattle.std.proofs.lemmas.Bool.Decides.{nat_tests}
use Rattle.nav_bits.specs.Bits.{bit, number_at}
use Rattle.nav_bits.specs.Fields.{StandFrom}
use Rattle.nav_bits.specs.Laws.{number_at-lt}
use Rattle.nav_eph.specs.Weeks.{IsGpsWeek, IsGalileoWeek}
use Rattle.nav_eph.specs.Satellite.{IsSat}
use Rattle.nav_eph.specs.Steps.{IsSisa}
use Rattle.nav_eph.specs.declared.sat.System.{System}
use Rattle.nav_eph.specs.declared.sat.System.TheVariants.{Gps, Gal}
use Rattle.nav_eph.specs.declared.items.GpsEph.{GpsEph}
use Rattle.nav_eph.specs.declared.items.GalEph.{GalEph}
use Rattle.nav_eph.specs.declared.items.NavItem.{NavItem}
use Rattle.nav_eph.specs.declared.items.NavItem.TheVariants.{Gps as GpsItem, Gal as GalItem, Ion as IonItem}
use Rattle.nav_eph.specs.declared.items.SentSecond.TheVariants.{Unknown}
use Rattle.rtcm_eph.specs.declared.message1019.Message1019.{Message1019}
use Rattle.rtcm_eph.specs.declared.message1046.Message1046.{Message1046}
use Rattle.rtcm_eph.specs.declared.content.EphemerisMessage.{EphemerisMessage}
use Rattle.rtcm_eph.specs.declared.content.EphemerisMessage.TheVariants.{Gps as OfGps, Gal as OfGal}
use Rattle.rtcm_eph.specs.declared.fault.MessageFault.{MessageFault}
use Rattle.rtcm_eph.specs.Messages.{fields_1019, fields_1046, message1019_at, message1046_at}
use Rattle.rtcm_eph.specs.Reading.{GivesItem, content_1019, content_1046, content_by, content_of, gps_eph, gal_eph, is_sisa}
use Rattle.rtcm_eph.specs.Writing.{message_1019, message_1046}
use Rattle.rtcm_eph.specs.RoundTrip.{AreBytes, Begins1019, Begins1046, IsGal, IsGps}
use Rattle.nav_eph.specs.Weeks.{IsNearGalileo, IsNearGps}
use Rattle.rtcm_eph.proofs.Contents.{GivenGps, GivenGal, given_gps, given_gal, good_1019, good_1046, content_gps, content_gal}
use Rattle.rtcm_eph.proofs.Heads.{same_bytes}
use Rattle.rtcm_eph.proofs.Tables.{same_table}

-- the fields of an ephemeris that message 1019 gives are those of the message
fields_again_1019 : (m : Message1019) (week : ℕ) → week % 1024 ≡ m.week → message_1019 (gps_eph (content_1019 m) week) ≡ m
fields_again_1019 m week h = ap (λ (k : ℕ). let n : Message1019 = record m { week = k } in n) h

fields_again_1046 : (m : Message1046) (week : ℕ) → (week + 3072) % 4096 ≡ m.week → message_1046 (gal_eph (content_1046 m) week) ≡ m
fields_again_1046 m week h = ap (λ (k : ℕ). let n : Message1046 = record m { week = k } in n) h

-- the fields of a message are in the bits from which they are read
table_at_1019 : (p : List ℕ) → number_at p 0 12 ≡ 1019 → StandFrom p 0 0 (fields_1019 (message1019_at p 0))
table_at_1019 p h = search (rules, h)

table_at_1046 : (p : List ℕ) → number_at p 0 12 ≡ 1046 → StandFrom p 0 0 (fields_1046 (message1046_at p 0))
table_at_1046 p h = search (rules, h)

-- two payloads with one message in them have the same bits
same_1019 : (a b : List ℕ) (m : Message1019) → StandFrom a 0 0 (fields_1019 m) → StandFrom b 0 0 (fields_1019 m)
    → (i : ℕ) → i < 488 → bit a i ≡ bit b i
same_1019 a b m s t i h = same_table a b 0 0 (fields_1019 m) (search rules) s t i (omega arith) (omega arith)

same_1046 : (a b : List ℕ) (m : Message1046) → StandFrom a 0 0 (fields_1046 m) → StandFrom b 0 0 (fields_1046 m)
    → (i : ℕ) → i < 502 → bit a i ≡ bit b i
same_1046 a b m s t i h = same_table a b 0 0 (fields_1046 m) (search rules) s t i (omega arith) (omega arith)

gps_week_again : (r n w : ℕ) → n < 1024 → IsGpsWeek r n w → w % 1024 ≡ n
gps_week_again r n w fits is = let same : w % 1024 ≡ n % 1024 = is.same in omega arith

galileo_week_again : (r n w : ℕ) → n < 4096 → IsGalileoWeek r n w → (w + 3072) % 4096 ≡ n
galileo_week_again r n w fits is = let same : w % 4096 ≡ (n + 1024) % 4096 = is.same in omega arith

-- a payload that is read as an ephemeris has the bits of each payload that is written for it
pub read_is_sent_1019 : (e : GpsEph) (payload sent : List ℕ) (r : ℕ) → GivesItem r (content_of payload) (Ok (GpsItem e))
    → Begins1019 sent e → (61 ≤ length payload) × ((i : ℕ) → i < 488 → bit payload i ≡ bit sent i)
read_is_sent_1019 e payload sent r given begins =
    let m = message1019_at payload 0 in
    let known : GivenGps (length payload) (number_at payload 0 12) r m e =
    given_gps (length payload) (number_at payload 0 12) r m (message1046_at payload 0) e given in
    let week : e.toe_week % 1024 ≡ m.week = gps_week_again r m.week e.toe_week (number_at-lt payload 18 10) known.week in
    let fields : message_1019 e ≡ m = ap message_1019 known.same ∙ fields_again_1019 m e.toe_week week in
    let there : StandFrom sent 0 0 (fields_1019 m) =
    subst (λ (n : Message1019). StandFrom sent 0 0 (fields_1019 n)) fields begins.fields in
    (known.long, same_1019 payload sent m (table_at_1019 payload known.number_is) there)

pub read_is_sent_1046 : (e : GalEph) (payload sent : List ℕ) (r : ℕ) → GivesItem r (content_of payload) (Ok (GalItem e))
    → Begins1046 sent e → (i : ℕ) → i < 502 → bit payload i ≡ bit sent i
read_is_sent_1046 e payload sent r given begins =
    let m = message1046_at payload 0 in
    let known : GivenGal (length payload) (number_at payload 0 12) r m e =
    given_gal (length payload) (number_at payload 0 12) r (message1019_at payload 0) m e given in
    let week : (e.toe_week + 3072) % 4096 ≡ m.week = galileo_week_again r m.week e.toe_week (number_at-lt payload 18 12) known.week in
    let fields : message_1046 e ≡ m = ap message_1046 known.same ∙ fields_again_1046 m e.toe_week week in
    let there : StandFrom sent 0 0 (fields_1046 m) =
    subst (λ (n : Message1046). StandFrom sent 0 0 (fields_1046 n)) fields begins.fields in
    same_1046 payload sent m (table_at_1046 payload known.number_is) there

pub read_1019_is_sent : (e : GpsEph) (payload sent : List ℕ) (r : ℕ) → AreBytes payload → AreBytes sent
    → GivesItem r (content_of payload) (Ok (GpsItem e)) → Begins1019 sent e → length sent ≡ 61 → take 61 payload ≡ sent
read_1019_is_sent e payload sent r bytes bytes' given begins long =
    let known : (61 ≤ length payload) × ((i : ℕ) → i < 488 → bit payload i ≡ bit sent i) = read_is_sent_1019 e payload sent r given begins in
    same_bytes payload sent 61 known.0 long bytes.each bytes'.each known.1

-- the fields of a message determine it
pub one_1019 : (bits : List ℕ) (at : ℕ) (m : Message1019) → StandFrom bits at 0 (fields_1019 m) → m ≡ message1019_at bits at
one_1019 bits at m s = search rules

pub one_1046 : (bits : List ℕ) (at : ℕ) (m : Message1046) → StandFrom bits at 0 (fields_1046 m) → m ≡ message1046_at bits at
one_1046 bits at m s = search rules

-- a week number has one full week near a reference week
gps_week_is : (r w v : ℕ) → IsNearGps r w → IsGpsWeek r (w % 1024) v → v ≡ w
gps_week_is r w v near is =
    let same : v % 1024 ≡ w % 1024 % 1024 = is.same in
    let a : r ≤ w + 512 = near.from in let b : w ≤ r + 511 = near.to in
    let c : r ≤ v + 512 = is.from in let d : v ≤ r + 511 = is.to in
    omega arith

galileo_week_is : (r w v : ℕ) → IsNearGalileo r w → IsGalileoWeek r ((w + 3072) % 4096) v → v ≡ w
galileo_week_is r w v near is =
    let same : v % 4096 ≡ ((w + 3072) % 4096 + 1024) % 4096 = is.same in
    let a : max 1024 (r - 2048) ≤ w = near.from in let b : w ≤ max 1024 (r - 2048) + 4095 = near.to in
    let c : max 1024 (r - 2048) ≤ v = is.from in let d : v ≤ max 1024 (r - 2048) + 4095 = is.to in
    omega arith

-- the ephemeris of the fields of an ephemeris
gps_again : (e : GpsEph) → e.sat.system ≡ Gps → e.a.iode ≡ e.b.iode
    → gps_eph (content_1019 (message_1019 e)) e.toe_week ≡ record e { sent = Unknown }
gps_again e system issue =
    let with : System → ℕ → GpsEph = λ s n. record e {
      sat = record { system = s; number = e.sat.number };
      b = record e.b { iode = n };
      sent = Unknown;
    } in
    ap (λ s. with s e.a.iode) (sym system) ∙ ap (with e.sat.system) issue

gal_again : (e : GalEph) → e.sat.system ≡ Gal → e.w2.iodnav ≡ e.w1.iodnav → e.w3.iodnav ≡ e.w1.iodnav → e.w4.iodnav ≡ e.w1.iodnav
    → gal_eph (content_1046 (message_1046 e)) e.toe_week ≡ record e { sent = Unknown }
gal_again e system two three four =
    let with : System → ℕ → ℕ → ℕ → GalEph = λ s n2 n3 n4. record e {
      sat = record { system = s; number = e.sat.number };
      w2 = record e.w2 { iodnav = n2 };
      w3 = record e.w3 { iodnav = n3 };
      w4 = record e.w4 { iodnav = n4 };
      sent = Unknown;
    } in
    let n = e.w1.iodnav in
    ap (λ s. with s n n n) (sym system) ∙ ap (λ k. with e.sat.system k n n) (sym two)
    ∙ ap (λ k. with e.sat.system e.w2.iodnav k n) (sym three) ∙ ap (λ k. with e.sat.system e.w2.iodnav e.w3.iodnav k) (sym four)

answer_1019 : (e : GpsEph) (r : ℕ) → IsGps e → IsNearGps r e.toe_week → (answer : Result NavItem MessageFault)
    → GivesItem r (Ok (OfGps (content_1019 (message_1019 e)))) answer → answer ≡ Ok (GpsItem (record e { sent = Unknown }))
answer_1019 e r g near (Ok (GpsItem x)) h =
    let week : x.toe_week ≡ e.toe_week = gps_week_is r e.toe_week x.toe_week near h.0 in
    ap (λ (y : GpsEph). let a : Result NavItem MessageFault = Ok (GpsItem y) in a)
    (h.1 ∙ ap (λ w. gps_eph (content_1019 (message_1019 e)) w) week ∙ gps_again e g.whole.system g.whole.issue)
answer_1019 e r g near (Ok (GalItem x)) h = absurd h
answer_1019 e r g near (Ok (IonItem x)) h = absurd h
answer_1019 e r g near (Err fault) h = absurd h

answer_1046 : (e : GalEph) (r : ℕ) → IsGal e → IsNearGalileo r e.toe_week → (answer : Result NavItem MessageFault)
    → GivesItem r (Ok (OfGal (content_1046 (message_1046 e)))) answer → answer ≡ Ok (GalItem (record e { sent = Unknown }))
answer_1046 e r g near (Ok (GpsItem x)) h = absurd h
answer_1046 e r g near (Ok (GalItem x)) h =
    let week : x.toe_week ≡ e.toe_week = galileo_week_is r e.toe_week x.toe_week near h.0 in
    ap (λ (y : GalEph). let a : Result NavItem MessageFault = Ok (GalItem y) in a)
    (h.1 ∙ ap (λ w. gal_eph (content_1046 (message_1046 e)) w) week
    ∙ gal_again e g.whole.system g.whole.issue2 g.whole.issue3 g.whole.issue4)
answer_1046 e r g near (Ok (IonItem x)) h = absurd h
answer_1046 e r g near (Err fault) h = absurd h

sisa_passes : (n : ℕ) → IsSisa n → is_sisa n ≡ true
sisa_passes n (inl h) = grind (arith, nat_tests)
sisa_passes n (inr h) = grind (arith, nat_tests)

-- a payload that begins with the message of an ephemeris reads as its fields
sent_content_1019 : (e : GpsEph) (payload : List ℕ) → IsGps e → Begins1019 payload e
    → content_of payload ≡ Ok (OfGps (content_1019 (message_1019 e)))
sent_content_1019 e payload g begins =
    let m = message_1019 e in
    let fields : message1019_at payload 0 ≡ m = sym (one_1019 payload 0 m begins.fields) in
    let number : number_at payload 0 12 ≡ 1019 = begins.fields.0 in
    let sat : IsSat Gps e.sat.number = subst (λ (s : System). IsSat s e.sat.number) g.whole.system g.number in
    ap (λ n. content_by (length payload) n (message1019_at payload 0) (message1046_at payload 0)) number
    ∙ ap (λ (x : Message1019). content_by (length payload) 1019 x (message1046_at payload 0)) fields
    ∙ content_gps (length payload) m (message1046_at payload 0) begins.long
    ∙ good_1019 m sat.0 sat.1 g.toe g.toc

sent_content_1046 : (e : GalEph) (payload : List ℕ) → IsGal e → Begins1046 payload e
    → content_of payload ≡ Ok (OfGal (content_1046 (message_1046 e)))
sent_content_1046 e payload g begins =
    let m = message_1046 e in
    let fields : message1046_at payload 0 ≡ m = sym (one_1046 payload 0 m begins.fields) in
    let number : number_at payload 0 12 ≡ 1046 = begins.fields.0 in
    let sat : IsSat Gal e.sat.number = subst (λ (s : System). IsSat s e.sat.number) g.whole.system g.number in
    ap (λ n. content_by (length payload) n (message1019_at payload 0) (message1046_at payload 0)) number
    ∙ ap (λ (x : Message1046). content_by (length payload) 1046 (message1019_at payload 0) x) fields
    ∙ content_gal (length payload) (message1019_at payload 0) m begins.long
    ∙ good_1046 m sat.0 sat.1 g.toe g.toc (sisa_passes e.w3.sisa g.sisa)

pub sent_is_read_1019 : (e : GpsEph) (payload : List ℕ) (r : ℕ) (answer : Result NavItem MessageFault) → IsGps e
    → IsNearGps r e.toe_week → Begins1019 payload e → GivesItem r (content_of payload) answer
    → answer ≡ Ok (GpsItem (record e { sent = Unknown }))
sent_is_read_1019 e payload r answer g near begins given =
    answer_1019 e r g near answer
    (subst (λ (c : Result EphemerisMessage MessageFault). GivesItem r c answer) (sent_content_1019 e payload g begins) given)

pub sent_is_read_1046 : (e : GalEph) (payload : List ℕ) (r : ℕ) (answer : Result NavItem MessageFault) → IsGal e
    → IsNearGalileo r e.toe_week → Begins1046 payload e → GivesItem r (content_of payload) answer
    → answer ≡ Ok (GalItem (record e { sent = Unknown }))
sent_is_read_1046 e payload r answer g near begins given =
    answer_1046 e r g near answer
    (subst (λ (c : Result EphemerisMessage MessageFault). GivesItem r c answer) (sent_content_1046 e payload g begins) given)

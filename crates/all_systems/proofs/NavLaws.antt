-- The merged items of GPS and Galileo are those of their own merge, in an order of their own.
use Rattle.std.proofs.Common.{◌≡◌, ℕ, ℤ, pos, Bool, true, false, cond, if◌then◌else◌, int_lt, List, [], ◌∷◌, ◌++◌, ◌↔◌, Contains, refl, sym, ap, subst, ◌∙◌}
use Rattle.std.specs.Prelude.{nat_eq, slice_index_or}
use Rattle.std.specs.Cmp.Lexicographic.{slice_cmp}
use Rattle.std.specs.FinMap.{int_cmp-IsAntisymmetric, slice_cmp-IsAntisymmetric}
use Rattle.std.specs.Ordering.{int_cmp, is_lt, ordering_then}
use Rattle.std.specs.declared.cmp.Ordering.TheVariants.{Less, Equal, Greater}
use Rattle.std.proofs.lemmas.Cmp.{int_cmp_total, lists_total, tied_itself}
use Rattle.std.proofs.lemmas.Map.Lookups.{exact_signed}
use Rattle.nav_bits.specs.Mirrors.{magnitude_of}
use Rattle.nav_eph.specs.Items.{IsAlike, unsent}
use Rattle.nav_eph.specs.Ranks.{rank, sent_of}
use Rattle.nav_eph.specs.Satellite.{Satellite}
use Rattle.nav_eph.specs.declared.ion.IonContent.{IonContent}
use Rattle.nav_eph.specs.declared.ion.IonContent.TheVariants.{Gps as OfGps, Gal as OfGal}
use Rattle.nav_eph.specs.declared.items.NavItem.{NavItem}
use Rattle.nav_eph.specs.declared.items.NavItem.TheVariants.{Gps, Gal, Ion}
use Rattle.nav_eph.specs.declared.items.SentSecond.{SentSecond}
use Rattle.nav_eph.specs.declared.items.SentSecond.TheVariants.{Unknown, At}
use Rattle.nav_eph.proofs.Surface.{ranks_alike}
use Rattle.nav_lists.specs.Merging.{IsEarliest, IsMerged, is_sooner}
use Rattle.nav_lists.specs.Ranks.{AreTold, IsFirst, IsRankedList}
use Rattle.rinex_write.specs.Fields.{gps_epoch, galileo_epoch}
use Rattle.all_systems.specs.NavOrder.{by_numbers, by_sent, nav_rank, sent_place}

-- lists that compare equal are equal
pub one_list : (xs ys : List ℤ) → slice_cmp int_cmp xs ys ≡ Equal → xs ≡ ys
one_list xs ys e = slice_cmp-IsAntisymmetric int_cmp-IsAntisymmetric xs ys e

abbrev pub number_at : ℕ → List ℤ → ℕ
number_at k l = magnitude_of (slice_index_or l k (pos 0))

-- ---- the numbers of an item in the order of its fields

picked : List ℕ → List ℤ → List ℤ
picked [] l = []
picked (k ∷ ks) l = slice_index_or l k (pos 0) ∷ picked ks l

gps_again : List ℤ → List ℤ
gps_again l =
    pos 0 ∷ picked (35 ∷ 2 ∷ 31 ∷ 33 ∷ 7 ∷ 6 ∷ 5 ∷ 30 ∷ 25 ∷ 28 ∷ 29 ∷ 27 ∷ 8 ∷ 9 ∷ 10 ∷ 11 ∷ 12 ∷ 13 ∷ 14 ∷ 15 ∷ 16
    ∷ 32 ∷ 26 ∷ 34 ∷ 17 ∷ 18 ∷ 19 ∷ 20 ∷ 21 ∷ 22 ∷ 23 ∷ 24 ∷ []) l

galileo_again : List ℤ → List ℤ
galileo_again l =
    pos 1 ∷ picked (37 ∷ 2 ∷ 8 ∷ 16 ∷ 11 ∷ 13 ∷ 15 ∷ 34 ∷ 18 ∷ 20 ∷ 22 ∷ 24 ∷ 35 ∷ 23 ∷ 10 ∷ 12 ∷ 14 ∷ 21 ∷ 9 ∷ 26
    ∷ 36 ∷ 17 ∷ 19 ∷ 33 ∷ 5 ∷ 6 ∷ 7 ∷ 25 ∷ 31 ∷ 32 ∷ 27 ∷ 29 ∷ 28 ∷ 30 ∷ []) l

gps_ion_again : List ℤ → List ℤ
gps_ion_again l = pos 2 ∷ picked (5 ∷ 2 ∷ 0 ∷ []) l ++ pos 0 ∷ picked (6 ∷ 7 ∷ 8 ∷ 9 ∷ 10 ∷ 11 ∷ 12 ∷ 13 ∷ []) l

galileo_ion_again : List ℤ → List ℤ
galileo_ion_again l = pos 2 ∷ picked (5 ∷ 2 ∷ 0 ∷ []) l ++ pos 1 ∷ picked (6 ∷ 7 ∷ 8 ∷ 9 ∷ []) l

again : List ℤ → List ℤ
again l =
    if nat_eq (number_at 1 l) 0 then gps_again l
    else if nat_eq (number_at 1 l) 1 then galileo_again l
    else if nat_eq (number_at 1 l) 7 then gps_ion_again l
    else galileo_ion_again l

ion_again : (sat : Satellite) (moment : ℕ) (content : IonContent)
    → again (nav_rank (Ion (record { sat = sat; moment = moment; content = content }))) ≡ rank (Ion (record { sat = sat; moment = moment; content = content }))
unfolding again gps_ion_again galileo_ion_again picked
ion_again sat moment (OfGps x) = refl
ion_again sat moment (OfGal x) = refl

rank_again : (x : NavItem) → again (nav_rank x) ≡ rank x
unfolding again gps_again galileo_again picked
rank_again (Gps e) = refl
rank_again (Gal e) = refl
rank_again (Ion e) = ion_again e.sat e.moment e.content

numbers_unsent : (x : NavItem) → nav_rank (unsent x) ≡ nav_rank x
unfolding gps_epoch galileo_epoch
numbers_unsent (Gps e) = refl
numbers_unsent (Gal e) = refl
numbers_unsent (Ion e) = refl

-- items of one rank are equal but for the time sent
tied_alike : (a b : NavItem) → by_numbers a b ≡ Equal → IsAlike a b
tied_alike a b e = (ranks_alike a b).0 (sym (rank_again a) ∙ ap again (one_list (nav_rank a) (nav_rank b) e) ∙ rank_again b)

alike_tied : (a b : NavItem) → IsAlike a b → by_numbers a b ≡ Equal
alike_tied a b e =
    let same : nav_rank b ≡ nav_rank a = sym (numbers_unsent b) ∙ ap nav_rank (sym e) ∙ numbers_unsent a in
    ap (slice_cmp int_cmp (nav_rank a)) same ∙ tied_itself (lists_total int_cmp_total) (nav_rank a)

-- ---- transmission times

sooner_is : (s t : SentSecond) → is_lt (slice_cmp int_cmp (sent_place s) (sent_place t)) ≡ is_sooner s t
sooner_is (At s) (At t) = at (int_lt s t) (int_lt t s)
  where
    at : (b d : Bool) → is_lt (ordering_then (cond b Less (cond d Greater Equal)) Equal) ≡ b
    at true d = refl
    at false true = refl
    at false false = refl
sooner_is (At s) Unknown = refl
sooner_is Unknown (At t) = refl
sooner_is Unknown Unknown = refl

true_not : {P : Type 0} → true ≡ false → P
true_not {P} e = absurd (cc)

same_second : (a b : SentSecond) → is_sooner a b ≡ false → is_sooner b a ≡ false → a ≡ b
same_second Unknown Unknown h k = refl
same_second Unknown (At t) h k = true_not k
same_second (At s) Unknown h k = true_not h
same_second (At s) (At t) h k = ap At (exact_signed s t (λ i. cond (h i) Less (cond (k i) Greater Equal)))

sent_from : List ℤ → SentSecond
sent_from l = if nat_eq (number_at 0 l) 0 then At (slice_index_or l 1 (pos 0)) else Unknown

sent_again : (s : SentSecond) → sent_from (sent_place s) ≡ s
unfolding sent_from
sent_again Unknown = refl
sent_again (At s) = refl

-- the item with its transmission time replaced
resent : NavItem → SentSecond → NavItem
resent (Gps e) second = Gps (record e { sent = second })
resent (Gal e) second = Gal (record e { sent = second })
resent (Ion e) second = Ion e

resent_own : (x : NavItem) → resent (unsent x) (sent_of x) ≡ x
unfolding resent
resent_own (Gps e) = refl
resent_own (Gal e) = refl
resent_own (Ion e) = refl

one_item : (a b : NavItem) → IsAlike a b → sent_of a ≡ sent_of b → a ≡ b
one_item a b e s = sym (resent_own a) ∙ ap (resent (unsent a)) s ∙ ap (λ x. resent x (sent_of b)) e ∙ resent_own b

pub told_items : (items : NavItem → Type 0) → AreTold by_numbers by_sent items
told_items items x y h k e f =
    one_item x y (tied_alike x y e)
    (sym (sent_again (sent_of x)) ∙ ap sent_from (one_list (sent_place (sent_of x)) (sent_place (sent_of y)) f) ∙ sent_again (sent_of y))

-- ---- the same set

earliest : (items : NavItem → Type 0) (m : NavItem) → IsFirst by_numbers by_sent items m → IsEarliest items m
earliest items m f = record {
  here = f.here;
  first = λ other i a. sym (sooner_is (sent_of other) (sent_of m)) ∙ f.first other i (alike_tied other m a);
}

-- a list with one of those alike to each has each that is the earliest
stands : (items : NavItem → Type 0) (list : List NavItem) → ((m : NavItem) → Contains list m → IsEarliest items m)
    → ((x : NavItem) → items x → (m : NavItem) × Contains list m × IsAlike x m) → (m : NavItem) → IsEarliest items m → Contains list m
stands items list each every m f =
    let k = every m f.here in
    let g = each k.0 k.1 in
    let same : m ≡ k.0 = one_item m k.0 k.2 (same_second (sent_of m) (sent_of k.0) (g.first m f.here k.2) (f.first k.0 g.here (sym k.2))) in
    subst (Contains list) (sym same) k.1

pub same_items : (items ranked merged : List NavItem) → IsRankedList by_numbers by_sent (Contains items) ranked → IsMerged (Contains items) merged
    → (m : NavItem) → Contains ranked m ↔ Contains merged m
same_items items ranked merged r h m = (
  λ k. stands (Contains items) merged h.each h.every m (earliest (Contains items) m (r.each m k)),
  λ k. stands (Contains items) ranked (λ n l. earliest (Contains items) n (r.each n l)) (λ x l. let e = r.every x l in (e.0, e.1, tied_alike x e.0 e.2)) m (h.each m k),
)

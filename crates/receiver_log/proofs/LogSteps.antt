-- Steps of a log, one after another: bytes are fed, receptions are passed, and lines wait.
use Rattle.std.proofs.Common.{◌≡◌, ℕ, ◌+◌, Bool, true, false, List, [], ◌∷◌, ◌++◌, length, map}
use Rattle.std.proofs.Common.{take, ◌<◌, ◌≤◌, ◌⊎◌, inl, inr}
use Rattle.std.proofs.Common.{refl, sym, ap, subst, ◌∙◌, append-nil, append_assoc, arith, length-append}
use Rattle.std.proofs.KnownBytes.{Appends-trans, Consumes-trans}
use Rattle.std.specs.Prelude.{Option, Some, None, IsTrue}
use Rattle.std.specs.Io.KnownBytes.{Appends, Consumes, IsAtEnd, Keeps}
use Rattle.nav_io.specs.Prefix.{AppendsPrefix, IsPrefix}
use Rattle.framing.specs.Headings.{Heading, format_of}
use Rattle.framing.specs.Messages.{messages, messages_past}
use Rattle.one_run.specs.Runs.{AppendsBetween}
use Rattle.one_run.proofs.Surface.{between_behind, between_whole, between_within, prefix_after}
use Rattle.one_run.proofs.Surface.{prefix_behind, prefix_same}
use Rattle.one_run.specs.declared.fault.BridgeFault.{BridgeFault}
use Rattle.one_run.specs.declared.fault.BridgeFault.TheVariants.{ReadFault, WriteFault, ReportFault}
use Rattle.one_run.specs.declared.fault.BridgeFault.TheVariants.{NotThisForm, TooLong, NoMemory}
use Rattle.receiver_log.specs.declared.content.LogMessage.{LogMessage}
use Rattle.receiver_log.specs.declared.reception.Reception.{Reception}
use Rattle.receiver_log.specs.declared.state.LogState.{LogState}
use Rattle.receiver_log.specs.Capture.{counts_after, given, lines_from, refusal_text, refusals_from}
use Rattle.receiver_log.specs.Capture.{state_after, too_many}
use Rattle.receiver_log.specs.Mirrors.{Place, ahead, fed_with, to_come}
use Rattle.receiver_log.specs.Steps.{Advances, Breaks, BreaksLast, Early, ReceivesLog, ReceivesLast, ReceivesOne, IsIdle, IsOver, OneLast}
use Rattle.receiver_log.specs.Steps.{LastPiece, LogView, Passes, Reads, Stops, Reports}

-- ---- known bytes

pub consumes_none : (left : Option (List ℕ)) → Consumes left left []
consumes_none None = tt
consumes_none (Some xs) = refl

pub appends_none : (old : Option (List ℕ)) → Appends old old []
appends_none None = tt
appends_none (Some xs) = sym (append-nil xs)

pub keeps_consumes : (old new : Option (List ℕ)) → Keeps old new → Consumes old new []
keeps_consumes None new a = tt
keeps_consumes (Some xs) None a = absurd a
keeps_consumes (Some xs) (Some ys) a = sym a

-- ---- receptions one after another

pub lines_on : (s : LogState) (xs ys : List Reception)
    → lines_from s (xs ++ ys) ≡ lines_from s xs ++ lines_from (state_after s xs) ys
lines_on s [] ys = refl
lines_on s (r ∷ rs) ys =
    ap (λ t. (given s r).text ++ t) (lines_on (given s r).state rs ys)
    ∙ sym (append_assoc (given s r).text (lines_from (given s r).state rs)
    (lines_from (state_after (given s r).state rs) ys))

pub refusals_on : (s : LogState) (xs ys : List Reception)
    → refusals_from s (xs ++ ys) ≡ refusals_from s xs ++ refusals_from (state_after s xs) ys
refusals_on s [] ys = refl
refusals_on s (r ∷ rs) ys =
    ap (λ t. refusal_text s r ++ t) (refusals_on (given s r).state rs ys)
    ∙ sym (append_assoc (refusal_text s r) (refusals_from (given s r).state rs)
    (refusals_from (state_after (given s r).state rs) ys))

pub state_on : (s : LogState) (xs ys : List Reception)
    → state_after s (xs ++ ys) ≡ state_after (state_after s xs) ys
state_on s [] ys = refl
state_on s (r ∷ rs) ys = state_on (given s r).state rs ys

-- ---- what is said of the report

-- what is said of both parts of a text is said of the whole
abbrev pub Joins : (p q r : List ℕ → Type 0) → Type 0
Joins p q r = (t u : List ℕ) → p t → q u → r (t ++ u)

pub both_told : (r r1 r2 : Option (List ℕ)) → Joins (Appends r r1) (Appends r1 r2) (Appends r r2)
both_told r r1 r2 t u = Appends-trans r r1 r2 t u

pub part_told : (r r1 r2 : Option (List ℕ))
    → Joins (Appends r r1) (AppendsPrefix r1 r2) (AppendsPrefix r r2)
part_told r r1 r2 t u = prefix_behind r r1 r2 t u

pub none_told : (p : List ℕ → Type 0) → Joins p (λ u. u ≡ []) p
none_told p t u told none = subst p (sym (ap (λ v. t ++ v) none ∙ append-nil t)) told

pub decided_by : (fault : BridgeFault) (r r1 r2 : Option (List ℕ))
    → Joins (Appends r r1) (Reports fault r1 r2) (Reports fault r r2)
decided_by ReadFault r r1 r2 t u = Appends-trans r r1 r2 t u
decided_by WriteFault r r1 r2 t u = Appends-trans r r1 r2 t u
decided_by ReportFault r r1 r2 t u = prefix_behind r r1 r2 t u
decided_by NotThisForm r r1 r2 t u = Appends-trans r r1 r2 t u
decided_by TooLong r r1 r2 t u = Appends-trans r r1 r2 t u
decided_by NoMemory r r1 r2 t u = Appends-trans r r1 r2 t u

-- a text, and then a text between two others
pub between_after : (w w1 w2 : Option (List ℕ)) (xs ys zs : List ℕ) → Appends w w1 xs
    → AppendsBetween w1 w2 ys zs → AppendsBetween w w2 (xs ++ ys) (xs ++ zs)
between_after w w1 w2 xs ys zs grew more = record {
  prefix = xs ++ more.prefix;
  within = prefix_after xs more.prefix zs more.within;
  no_less = prefix_after xs ys more.prefix more.no_less;
  grew = Appends-trans w w1 w2 xs more.prefix grew more.grew;
}

-- ---- steps

module _ (h : Heading) (said : List ℕ → LogMessage) where
  pub passes_on : (a b c : LogView) (x y : List ℕ) (xs ys : List Reception)
      → Passes h said a b x xs → Passes h said b c y ys → Passes h said a c (x ++ y) (xs ++ ys)
  passes_on a b c x y xs ys p q =
      let behind : (following : List ℕ) → (c.ended ≡ true → following ≡ [])
      → b.ended ≡ true → y ++ following ≡ [] =
      λ following last over. let both = q.stays over in rw (both.1, last both.0) refl in
      record {
        stream = λ following last.
            ap (λ t. ahead h said false a.place t) (append_assoc x y following)
            ∙ p.stream (y ++ following) (behind following last)
            ∙ ap (λ t. xs ++ t) (q.stream following last)
            ∙ sym (append_assoc xs ys (ahead h said false c.place following));
        decides = λ on following.
            ap (λ t. ahead h said true a.place t) (append_assoc x y following)
            ∙ p.decides (still on) (y ++ following)
            ∙ ap (λ t. xs ++ t) (q.decides on following)
            ∙ sym (append_assoc xs ys (ahead h said true c.place following));
        counts = λ following last.
            ap (λ t. counts_after said a.place.counts (messages (format_of h) (a.place.rest ++ t)))
            (append_assoc x y following)
            ∙ p.counts (y ++ following) (behind following last) ∙ q.counts following last;
        stays = λ over.
            let first = p.stays over in
            let second = q.stays first.0 in
            (second.0, rw (first.1, second.1) refl);
      }
    where
      by_end : (f : Bool) → (f ≡ true → c.ended ≡ true) → c.ended ≡ false → f ≡ false
      by_end false over on = refl
      by_end true over on = let no : true ≡ false = sym (over refl) ∙ on in cc

      still : c.ended ≡ false → b.ended ≡ false
      still = by_end b.ended (λ over. (q.stays over).0)

  unfoldable pub hears_nothing : (a : LogView) (lines : List ℕ) (p : List ℕ → Type 0) → p []
      → ReceivesLog h said a a [] lines lines p
  hears_nothing a lines p told = record {
    heard = [];
    passes = record {
      stream = λ following last. refl;
      decides = λ on following. refl;
      counts = λ following last. refl;
      stays = λ over. (over, refl);
    };
    state_is = refl;
    lines_are = sym (append-nil lines);
    told = told;
  }

  -- the lines were removed
  pub hears_cleared : (a b : LogView) (lines : List ℕ) (p : List ℕ → Type 0) → b ≡ a → lines ≡ []
      → p [] → ReceivesLog h said a b [] [] lines p
  hears_cleared a b lines p same none told = rw (same, none) (hears_nothing a [] p told)

  unfoldable pub hears_on : (a b c : LogView) (x y l l1 l2 : List ℕ) (p q r : List ℕ → Type 0)
      → Joins p q r
      → ReceivesLog h said a b x l l1 p → ReceivesLog h said b c y l1 l2 q
      → ReceivesLog h said a c (x ++ y) l l2 r
  hears_on a b c x y l l1 l2 p q r join m n = record {
    heard = m.heard ++ n.heard;
    passes = passes_on a b c x y m.heard n.heard m.passes n.passes;
    state_is = n.state_is ∙ ap (λ s. state_after s n.heard) m.state_is
        ∙ sym (state_on a.state m.heard n.heard);
    lines_are = n.lines_are ∙ ap (λ t. t ++ lines_from b.state n.heard) m.lines_are
        ∙ append_assoc l (lines_from a.state m.heard) (lines_from b.state n.heard)
        ∙ ap (λ s. l ++ (lines_from a.state m.heard ++ lines_from s n.heard)) m.state_is
        ∙ ap (λ t. l ++ t) (sym (lines_on a.state m.heard n.heard));
    told = subst r (ap (λ s. refusals_from a.state m.heard ++ refusals_from s n.heard) m.state_is
        ∙ sym (refusals_on a.state m.heard n.heard)) (join _ _ m.told n.told);
  }

  -- nothing was read
  unfoldable pub reads_none : (a b : LogView) (left : Option (List ℕ)) (l l1 : List ℕ)
      (p : List ℕ → Type 0)
      → b.taken ≡ a.taken → b.ended ≡ a.ended → ReceivesLog h said a b [] l l1 p
      → Reads h said a b left left l l1 p
  reads_none a b left l l1 p taken ended m = record {
    bytes = [];
    consumes = consumes_none left;
    size = omega (arith, taken);
    end = λ over known. rw taken (known (sym ended ∙ over));
    hears = m;
  }

  unfoldable pub reads_on : (a b c : LogView) (left left1 left2 : Option (List ℕ))
      (l l1 l2 : List ℕ) (p q r : List ℕ → Type 0) → Joins p q r
      → Reads h said a b left left1 l l1 p → Reads h said b c left1 left2 l1 l2 q
      → Reads h said a c left left2 l l2 r
  reads_on a b c left left1 left2 l l1 l2 p q r join m n = record {
    bytes = m.bytes ++ n.bytes;
    consumes = Consumes-trans left left1 left2 m.bytes n.bytes m.consumes n.consumes;
    size = omega (arith, m.size, n.size, length-append m.bytes n.bytes);
    end = λ over known. n.end over (λ before. m.end before known);
    hears = hears_on a b c m.bytes n.bytes l l1 l2 p q r join m.hears n.hears;
  }

  -- messages were taken
  pub reads_took : (a b c : LogView) (left left1 : Option (List ℕ)) (l l1 l2 : List ℕ)
      (p q r : List ℕ → Type 0) → Joins p q r → Reads h said a b left left1 l l1 p
      → c.taken ≡ b.taken → c.ended ≡ b.ended → ReceivesLog h said b c [] l1 l2 q
      → Reads h said a c left left1 l l2 r
  reads_took a b c left left1 l l1 l2 p q r join m taken ended n =
      reads_on a b c left left1 left1 l l1 l2 p q r join m
      (reads_none b c left1 l1 l2 q taken ended n)

  -- bytes were read
  pub reads_more : (a b c : LogView) (left left1 left2 : Option (List ℕ)) (l l1 l2 : List ℕ)
      (p : List ℕ → Type 0) → Reads h said a b left left1 l l1 p
      → Reads h said b c left1 left2 l1 l2 (λ text. text ≡ [])
      → Reads h said a c left left2 l l2 p
  reads_more a b c left left1 left2 l l1 l2 p m n =
      reads_on a b c left left1 left2 l l1 l2 p (λ text. text ≡ []) p (none_told p) m n

  ahead_fed : (more : Bool) (a : Place) (p following : List ℕ)
      → ahead h said more a (p ++ following) ≡ ahead h said more (fed_with a p) following
  ahead_fed more a p following = ap
      (λ t. to_come more a.queue a.counts.messages (map said (messages_past (format_of h) more t 0)))
      (sym (append_assoc a.rest p following))

  -- these bytes were read and fed, or the end was found
  pub reads_fed : (a b : LogView) (left left1 : Option (List ℕ)) (bytes l : List ℕ)
      → Consumes left left1 bytes → b.place ≡ fed_with a.place bytes → b.state ≡ a.state
      → b.taken ≡ a.taken + length bytes → a.ended ≡ false
      → (b.ended ≡ true → IsOver left1 b.taken)
      → Reads h said a b left left1 l l (λ text. text ≡ [])
  reads_fed a b left left1 bytes l consumes place state size on end = record {
    bytes = bytes;
    consumes = consumes;
    size = size;
    end = λ over known. end over;
    hears = record {
      heard = [];
      passes = record {
        stream = λ following last. rw place (ahead_fed false a.place bytes following);
        decides = λ still following. rw place (ahead_fed true a.place bytes following);
        counts = λ following last. rw place
            (ap (λ t. counts_after said a.place.counts (messages (format_of h) t))
            (sym (append_assoc a.place.rest bytes following)));
        stays = λ over. cc (over, on);
      };
      state_is = state;
      lines_are = sym (append-nil l);
      told = refl;
    };
  }

  -- the end was found
  pub reads_end : (a b : LogView) (left left1 : Option (List ℕ)) (n : ℕ) (piece l : List ℕ)
      → n ≡ 0 → Consumes left left1 (take n piece) → (n ≡ 0 → IsAtEnd left1)
      → b.place ≡ a.place → b.state ≡ a.state → b.taken ≡ a.taken → a.ended ≡ false
      → a.taken < too_many → Reads h said a b left left1 l l (λ text. text ≡ [])
  reads_end a b left left1 n piece l zero consumes end place state taken on few =
      reads_fed a b left left1 [] l (subst (λ (k : ℕ). Consumes left left1 (take k piece)) zero consumes)
      (place ∙ ap (λ t. record { rest = t; queue = a.place.queue; counts = a.place.counts })
      (sym (append-nil a.place.rest))) state (omega (arith, taken)) on
      (λ over. (end zero, rw taken few))

  -- nothing was read, where a read failed
  pub reads_failed : (a b : LogView) (left left1 : Option (List ℕ)) (l : List ℕ)
      → Keeps left left1 → b ≡ a → a.ended ≡ false
      → Reads h said a b left left1 l l (λ text. text ≡ [])
  reads_failed a b left left1 l keeps same on = rw same (record {
    bytes = [];
    consumes = keeps_consumes left left1 keeps;
    size = omega arith;
    end = λ over. cc (over, on);
    hears = hears_nothing a l (λ text. text ≡ []) refl;
  })

  -- ---- a fault

  -- one of the report is not one of a read
  fault_told : (fault : BridgeFault) (a : LogView) (never : Bool) (reads reads1 : ℕ)
      (r r1 : Option (List ℕ))
      → Stops h said a [] never reads reads1 0 0 fault
      → Joins (Appends r r1) (λ u. u ≡ []) (Reports fault r r1)
  fault_told ReadFault a never reads reads1 r r1 stops = none_told (Appends r r1)
  fault_told WriteFault a never reads reads1 r r1 stops = absurd stops
  fault_told ReportFault a never reads reads1 r r1 stops = absurd (omega (arith, stops.0))
  fault_told NotThisForm a never reads reads1 r r1 stops = absurd stops
  fault_told TooLong a never reads reads1 r r1 stops = none_told (Appends r r1)
  fault_told NoMemory a never reads reads1 r r1 stops = absurd stops

  pub reads_stopped : (fault : BridgeFault) (a b c : LogView) (left left1 left2 : Option (List ℕ))
      (l l1 l2 : List ℕ) (r r1 : Option (List ℕ)) (never : Bool) (reads reads1 : ℕ)
      → Reads h said a b left left1 l l1 (Appends r r1)
      → Reads h said b c left1 left2 l1 l2 (λ text. text ≡ [])
      → Stops h said c [] never reads reads1 0 0 fault
      → Reads h said a c left left2 l l2 (Reports fault r r1)
  reads_stopped fault a b c left left1 left2 l l1 l2 r r1 never reads reads1 m n stops =
      reads_on a b c left left1 left2 l l1 l2 (Appends r r1) (λ text. text ≡ []) (Reports fault r r1)
      (fault_told fault c never reads reads1 r r1 stops) m n

  -- ---- what was passed before the last piece

  -- the report of receptions one after another
  refusals_both : (a b : LogView) (x l l1 : List ℕ) (p : List ℕ → Type 0) (ys : List Reception)
      → (m : ReceivesLog h said a b x l l1 p)
      → refusals_from a.state (m.heard ++ ys)
      ≡ refusals_from a.state m.heard ++ refusals_from b.state ys
  refusals_both a b x l l1 p ys m =
      refusals_on a.state m.heard ys
      ∙ ap (λ s. refusals_from a.state m.heard ++ refusals_from s ys) (sym m.state_is)

  -- ---- receptions, of which none but the last gave lines

  no_lines : (a b : LogView) (x l l1 : List ℕ) (p : List ℕ → Type 0)
      (m : ReceivesLog h said a b x l l1 p) → l ≡ [] → l1 ≡ [] → lines_from a.state m.heard ≡ []
  no_lines a b x l l1 p m empty none =
      sym (m.lines_are ∙ ap (λ t. t ++ lines_from a.state m.heard) empty) ∙ none

  -- none gave any
  pub none_last : (a b : LogView) (x l l1 : List ℕ) (p : List ℕ → Type 0)
      (m : ReceivesLog h said a b x l l1 p) → l ≡ [] → l1 ≡ [] → OneLast a.state m.heard
  none_last a b x l l1 p m empty none = record {
    done = m.heard;
    last = [];
    receptions_are = sym (append-nil m.heard);
    few = omega arith;
    silent = no_lines a b x l l1 p m empty none;
  }

  -- and more after some that gave none
  unfoldable one_on : (a b : LogView) (x l l1 : List ℕ) (p : List ℕ → Type 0)
      (m : ReceivesLog h said a b x l l1 p) → l ≡ [] → l1 ≡ [] → (ys : List Reception)
      → OneLast b.state ys → OneLast a.state (m.heard ++ ys)
  one_on a b x l l1 p m empty none ys o = record {
    done = m.heard ++ o.done;
    last = o.last;
    receptions_are = ap (λ t. m.heard ++ t) o.receptions_are ∙ sym (append_assoc m.heard o.done o.last);
    few = o.few;
    silent = lines_on a.state m.heard o.done
        ∙ ap (λ t. t ++ lines_from (state_after a.state m.heard) o.done)
        (no_lines a b x l l1 p m empty none)
        ∙ ap (λ s. lines_from s o.done) (sym m.state_is) ∙ o.silent;
  }

  -- all was reported
  told_whole : (s : LogState) (heard : List Reception) (r r1 : Option (List ℕ)) (o : OneLast s heard)
      → Appends r r1 (refusals_from s heard)
      → AppendsBetween r r1 (refusals_from s o.done) (refusals_from s heard)
  told_whole s heard r r1 o told =
      let all = refusals_from s heard in
      let low : IsPrefix (refusals_from s o.done) all = (
        refusals_from (state_after s o.done) o.last,
        ap (refusals_from s) o.receptions_are ∙ refusals_on s o.done o.last,
      ) in
      between_within r r1 (refusals_from s o.done) all all all low (prefix_same all)
      (between_whole r r1 all told)

  -- one reception was passed, or none, where no line waited
  pub take_on : (a b c : LogView) (l1 l2 : List ℕ) (p q r : List ℕ → Type 0) → Joins p q r
      → ReceivesLog h said a b [] [] l1 p → l1 ≡ [] → ReceivesOne h said b c l1 l2 q
      → ReceivesLast h said a c [] l2 r
  unfolding hears_on
  take_on a b c l1 l2 p q r join m none n = (
    hears_on a b c [] [] [] l1 l2 p q r join m n.0,
    record {
      done = m.heard;
      last = n.0.heard;
      receptions_are = refl;
      few = n.1;
      silent = no_lines a b [] [] l1 p m refl none;
    },
  )

  pub take_broken : (a b c : LogView) (l1 l2 : List ℕ) (r r1 r2 : Option (List ℕ))
      → ReceivesLog h said a b [] [] l1 (Appends r r1) → l1 ≡ []
      → ReceivesOne h said b c l1 l2 (AppendsPrefix r1 r2) → BreaksLast h said a c [] l2 r r2
  unfolding hears_on
  take_broken a b c l1 l2 r r1 r2 m none n =
      let first = refusals_from a.state m.heard in (
        hears_on a b c [] [] [] l1 l2 (Appends r r1) (AppendsPrefix r1 r2) (AppendsPrefix r r2)
            (part_told r r1 r2) m n.0,
        record {
          done = m.heard;
          last = n.0.heard;
          receptions_are = refl;
          few = n.1;
          silent = no_lines a b [] [] l1 (Appends r r1) m refl none;
        },
        subst (AppendsBetween r r2 first)
            (sym (refusals_both a b [] [] l1 (Appends r r1) n.0.heard m))
            (between_behind r r1 r2 first (refusals_from b.state n.0.heard) m.told n.0.told),
      )

  -- nothing was read yet
  pub advances_none : (a : LogView) (left : Option (List ℕ)) (l : List ℕ) (p : List ℕ → Type 0)
      → p [] → Advances h said a a left left l l p
  unfolding reads_none hears_nothing
  advances_none a left l p told = record {
    reads = reads_none a a left l l p refl refl (hears_nothing a l p told);
    early = λ none. record {
      before = [];
      rest = [];
      receptions_are = refl;
      silent = refl;
      pieces = inl refl;
    };
    one = λ none. record { done = []; last = []; receptions_are = refl; few = omega arith; silent = refl };
  }

  -- receptions more were passed, and no byte was read
  early_more : (a : LogView) (bytes : List ℕ) (heard more : List Reception)
      → Early h said a bytes heard → Early h said a (bytes ++ []) (heard ++ more)
  early_more a bytes heard more e = record {
    before = e.before;
    rest = e.rest ++ more;
    receptions_are = ap (λ t. t ++ more) e.receptions_are ∙ append_assoc e.before e.rest more;
    silent = e.silent;
    pieces = subst (λ l. (l ≡ []) ⊎ LastPiece h said a l e.before) (sym (append-nil bytes))
        e.pieces;
  }

  -- messages were taken, where no line waited
  pub advances_took : (a b c : LogView) (left left1 : Option (List ℕ)) (l l1 l2 : List ℕ)
      (p q r : List ℕ → Type 0) → Joins p q r → l1 ≡ [] → Advances h said a b left left1 l l1 p
      → c.taken ≡ b.taken → c.ended ≡ b.ended → ReceivesLast h said b c [] l2 q
      → Advances h said a c left left1 l l2 r
  unfolding reads_took reads_none reads_on hears_on early_more
  advances_took a b c left left1 l l1 l2 p q r join none m taken ended n =
      let more = subst (λ t. ReceivesLast h said b c t l2 q) (sym none) n in
      record {
        reads = reads_took a b c left left1 l l1 l2 p q r join m.reads taken ended more.0;
        early = λ empty. early_more a m.reads.bytes m.reads.hears.heard more.0.heard
            (m.early empty);
        one = λ empty. one_on a b m.reads.bytes l l1 p m.reads.hears empty none more.0.heard more.1;
      }

  -- a message could not be reported
  pub breaks_took : (a b c : LogView) (left left1 : Option (List ℕ)) (l l1 l2 : List ℕ)
      (r r1 r2 : Option (List ℕ)) → l1 ≡ [] → Advances h said a b left left1 l l1 (Appends r r1)
      → c.taken ≡ b.taken → c.ended ≡ b.ended → BreaksLast h said b c [] l2 r1 r2
      → Breaks h said a c left left1 l l2 ReportFault r r2
  unfolding reads_took reads_none reads_on hears_on early_more one_on
  breaks_took a b c left left1 l l1 l2 r r1 r2 none m taken ended n =
      let broken = subst (λ t. BreaksLast h said b c t l2 r1 r2) (sym none) n in
      let more = broken.0 in
      let one = broken.1 in
      let first = refusals_from a.state m.reads.hears.heard in
      let all = refusals_from a.state (m.reads.hears.heard ++ more.heard) in
      let between : AppendsBetween r r2 first all =
      subst (AppendsBetween r r2 first)
      (sym (refusals_both a b m.reads.bytes l l1 (Appends r r1) more.heard m.reads.hears))
      (between_behind r r1 r2 first (refusals_from b.state more.heard) m.reads.hears.told
      more.told) in
      record {
        reads = reads_took a b c left left1 l l1 l2 (Appends r r1) (AppendsPrefix r1 r2)
            (Reports ReportFault r r2) (decided_by ReportFault r r1 r2) m.reads taken ended more;
        early = λ empty. early_more a m.reads.bytes m.reads.hears.heard more.heard (m.early empty);
        one = λ empty. one_on a b m.reads.bytes l l1 (Appends r r1) m.reads.hears empty none
            more.heard one;
        stopped = λ empty. subst (λ t. AppendsBetween r r2 t all)
            (sym (refusals_both a b m.reads.bytes l l1 (Appends r r1) one.done m.reads.hears))
            (subst (AppendsBetween r r2 (first ++ refusals_from b.state one.done))
            (sym (refusals_both a b m.reads.bytes l l1 (Appends r r1) more.heard m.reads.hears))
            (between_after r r1 r2 first (refusals_from b.state one.done)
            (refusals_from b.state more.heard) m.reads.hears.told broken.2));
        told = λ empty.
            let e = m.early empty in
            let low : IsPrefix (refusals_from a.state e.before) first = (
              refusals_from (state_after a.state e.before) e.rest,
              ap (refusals_from a.state) e.receptions_are ∙ refusals_on a.state e.before e.rest,
            ) in
            between_within r r2 (refusals_from a.state e.before) first all all low (prefix_same all)
            between;
      }

  -- a piece was read behind all that was decided
  early_filled : (a c d : LogView) (left left1 left2 : Option (List ℕ)) (l l1 l2 : List ℕ)
      (p q : List ℕ → Type 0) (m : Reads h said a c left left1 l l1 p)
      (n : Reads h said c d left1 left2 l1 l2 q) → l ≡ [] → l1 ≡ [] → IsIdle h said c
      → c.ended ≡ false → d.taken ≤ c.taken + 16384
      → Early h said a (m.bytes ++ n.bytes) (m.hears.heard ++ n.hears.heard)
  early_filled a c d left left1 left2 l l1 l2 p q m n empty none idle on few = record {
    before = m.hears.heard;
    rest = n.hears.heard;
    receptions_are = refl;
    silent = sym (m.hears.lines_are ∙ ap (λ t. t ++ lines_from a.state m.hears.heard) empty) ∙ none;
    pieces = inr (record {
      first = m.bytes;
      piece = n.bytes;
      bytes_are = refl;
      few = omega (arith, n.size, few);
      before_are = sym (ap (λ t. ahead h said true a.place t) (sym (append-nil m.bytes))
          ∙ m.hears.passes.decides on [] ∙ ap (λ t. m.hears.heard ++ t) (rw on at idle.last)
          ∙ append-nil m.hears.heard);
    });
  }

  pub advances_filled : (a c d : LogView) (left left1 left2 : Option (List ℕ)) (l l1 l2 : List ℕ)
      (p : List ℕ → Type 0) → Advances h said a c left left1 l l1 p
      → Reads h said c d left1 left2 l1 l2 (λ text. text ≡ []) → l1 ≡ [] → l2 ≡ l1 → IsIdle h said c
      → c.ended ≡ false → d.taken ≤ c.taken + 16384 → Advances h said a d left left2 l l2 p
  unfolding reads_more reads_on hears_on
  advances_filled a c d left left1 left2 l l1 l2 p m n none same idle on few = record {
    reads = reads_more a c d left left1 left2 l l1 l2 p m.reads n;
    early = λ empty. early_filled a c d left left1 left2 l l1 l2 p (λ text. text ≡ []) m.reads n
        empty none idle on few;
    one = λ empty. one_on a c m.reads.bytes l l1 p m.reads.hears empty none n.hears.heard
        (none_last c d n.bytes l1 l2 (λ text. text ≡ []) n.hears none (same ∙ none));
  }

  -- none could be read
  pub breaks_filled : (fault : BridgeFault) (a c d : LogView) (left left1 left2 : Option (List ℕ))
      (l l1 l2 : List ℕ) (r r1 : Option (List ℕ)) (never : Bool) (reads reads1 : ℕ)
      → Advances h said a c left left1 l l1 (Appends r r1)
      → Reads h said c d left1 left2 l1 l2 (λ text. text ≡ []) → l1 ≡ [] → l2 ≡ l1 → IsIdle h said c
      → c.ended ≡ false → d.taken ≤ c.taken + 16384
      → Stops h said d [] never reads reads1 0 0 fault
      → Breaks h said a d left left2 l l2 fault r r1
  unfolding reads_stopped reads_on hears_on early_filled
  breaks_filled fault a c d left left1 left2 l l1 l2 r r1 never reads reads1 m n none kept idle on few
      stops =
      let first = m.reads.hears.heard in
      let same : refusals_from a.state (first ++ n.hears.heard) ≡ refusals_from a.state first =
      refusals_both a c m.reads.bytes l l1 (Appends r r1) n.hears.heard m.reads.hears
      ∙ ap (λ t. refusals_from a.state first ++ t) n.hears.told
      ∙ append-nil (refusals_from a.state first) in
      let one : l ≡ [] → OneLast a.state (first ++ n.hears.heard) =
      λ empty. one_on a c m.reads.bytes l l1 (Appends r r1) m.reads.hears empty none n.hears.heard
      (none_last c d n.bytes l1 l2 (λ text. text ≡ []) n.hears none (kept ∙ none)) in
      record {
        reads = reads_stopped fault a c d left left1 left2 l l1 l2 r r1 never reads reads1 m.reads n
            stops;
        early = λ empty. early_filled a c d left left1 left2 l l1 l2 (Appends r r1)
            (λ text. text ≡ []) m.reads n empty none idle on few;
        one = one;
        stopped = λ empty. told_whole a.state (first ++ n.hears.heard) r r1 (one empty)
            (subst (Appends r r1) (sym same) m.reads.hears.told);
        told = λ empty. subst (AppendsBetween r r1 (refusals_from a.state first)) (sym same)
            (between_whole r r1 (refusals_from a.state first) m.reads.hears.told);
      }

  -- counted from before
  pub stops_from : (fault : BridgeFault) (a : LogView) (waiting : List ℕ) (never never0 : Bool)
      (reads reads0 reads1 reports reports0 reports1 : ℕ)
      → reads ≡ reads0 → reports ≡ reports0 → (IsTrue never0 → IsTrue never)
      → Stops h said a waiting never reads reads1 reports reports1 fault
      → Stops h said a waiting never0 reads0 reads1 reports0 reports1 fault
  stops_from ReadFault a waiting never never0 reads reads0 reads1 reports reports0 reports1 same told
      quiet (rose, later, cannot, rest, on, idle, kept) =
      (rw (← same) rose, rw (← same) later, λ still. cannot (quiet still), rest, on, idle, kept ∙ told)
  stops_from WriteFault a waiting never never0 reads reads0 reads1 reports reports0 reports1 same told
      quiet stops = stops
  stops_from ReportFault a waiting never never0 reads reads0 reads1 reports reports0 reports1 same told
      quiet (rose, kept) = (rw (← told) rose, kept ∙ same)
  stops_from NotThisForm a waiting never never0 reads reads0 reads1 reports reports0 reports1 same told
      quiet stops = stops
  stops_from TooLong a waiting never never0 reads reads0 reads1 reports reports0 reports1 same told
      quiet (kept, many, silent) = (kept ∙ same, many, silent ∙ told)
  stops_from NoMemory a waiting never never0 reads reads0 reads1 reports reports0 reports1 same told
      quiet stops = stops

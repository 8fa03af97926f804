-- A run that ended as its meaning says, whatever is read of its counts.
use Rattle.std.proofs.Common.{◌≡◌, ℕ, List, false, true, Option, None, Some, Result, Ok, Err, refl, sym, ap, subst}
use Rattle.std.specs.Prelude.{IfErr, IfSome, IsSome, IsOkAnd, MatchResult, OnErr, option_map}
use Rattle.one_run.specs.Ends.{giving, status_of, uncounted}
use Rattle.one_run.specs.Runs.{IsBroken, IsDone, Ended, IsAheadOf, Meaning, Says, World, bytes_for}
use Rattle.one_run.proofs.Facts.{ahead_after}
use Rattle.one_run.specs.declared.fault.BridgeFault.{BridgeFault}
use Rattle.one_run.specs.declared.fault.BridgeFault.TheVariants.{ReadFault, WriteFault, ReportFault, NotThisForm, TooLong, NoMemory}

some_given : {C D : Type 0} (f : C → D) (o : Option C) → IsSome o → IsSome (option_map f o)
some_given f None some = absurd (let no : false ≡ true = some in cc)
some_given f (Some c) some = refl

accepts_given : {C D : Type 0} (f : C → D) (counts : List ℕ → Option C) (o : Option (List ℕ)) → IfSome o (λ bytes. IsSome (counts bytes))
    → IfSome o (λ bytes. IsSome (option_map f (counts bytes)))
accepts_given f counts None all = tt
accepts_given f counts (Some bytes) some = some_given f (counts bytes) some

refuses_given : {C D : Type 0} (f : C → D) (counts : List ℕ → Option C) (o : Option (List ℕ)) → IfSome o (λ bytes. counts bytes ≡ None)
    → IfSome o (λ bytes. option_map f (counts bytes) ≡ None)
refuses_given f counts None all = tt
refuses_given f counts (Some bytes) none = ap (option_map f) none

says_given : {C D S T U : Type 0} (f : C → D) (m : Meaning C) (taken : List ℕ) (b a : World S T U) (fault : BridgeFault) → Says m taken b a fault → Says (giving f m) taken b a fault
says_given f m taken b a ReadFault says = says
says_given f m taken b a WriteFault says = (says.0, accepts_given f m.counts _ says.1)
says_given f m taken b a ReportFault says = (says.0, says.1, accepts_given f m.counts _ says.2)
says_given f m taken b a NotThisForm says = (ap (option_map f) says.0, refuses_given f m.counts _ says.1, says.2, says.3)
says_given f m taken b a TooLong says = says
says_given f m taken b a NoMemory says = (says.0, accepts_given f m.counts _ says.1, says.2)

done_given : {C D S T U : Type 0} (f : C → D) (m : Meaning C) (b a : World S T U) (counts : C) → IsDone m b a counts → IsDone (giving f m) b a (f counts)
done_given f m b a counts done = record {
  taken = done.taken;
  consumes = done.consumes;
  end = done.end;
  fits = done.fits;
  counted = ap (option_map f) done.counted;
  text = done.text;
  told = done.told;
  leaves = record { unread = done.leaves.unread; silent = done.leaves.silent };
  reads = done.reads;
  writes = done.writes;
  reports = done.reports;
}

broke_given : {C D S T U : Type 0} (f : C → D) (m : Meaning C) (b a : World S T U) (fault : BridgeFault) → IsBroken m b a fault → IsBroken (giving f m) b a fault
broke_given f m b a fault broke = record {
  taken = broke.taken;
  consumes = broke.consumes;
  text = broke.text;
  told = broke.told;
  ahead = broke.ahead;
  stopped = broke.stopped;
  counts_last = broke.counts_last;
  cause = broke.cause;
  leaves = record { unread = broke.leaves.unread; silent = broke.leaves.silent };
  says = says_given f m broke.taken b a fault broke.says;
}

ok_is : {D : Type 0} (result : Result D BridgeFault) (y : D) → IsOkAnd result (λ d. d ≡ y) → result ≡ Ok y
ok_is (Ok d) y e = ap Ok e
ok_is (Err fault) y none = absurd none

-- a run that ended as another did, with what is read of its counts
pub given_as : {C D S T U : Type 0} (f : C → D) (m : Meaning C) (b a : World S T U) (run : Result C BridgeFault) (result : Result D BridgeFault)
    → MatchResult run (λ counts. IsOkAnd result (λ d. d ≡ f counts)) (λ fault. result ≡ Err fault) → Ended m b a run → Ended (giving f m) b a result
given_as f m b a (Ok counts) result is done = subst (Ended (giving f m) b a) (sym (ok_is result (f counts) is)) (done_given f m b a counts done)
given_as f m b a (Err fault) result is broke = subst (Ended (giving f m) b a) (sym is) (broke_given f m b a fault broke)

-- what holds after a fault of the run does so of one that ended alike
pub ahead_given : {C D : Type 0} (A : Type 0) (f : C → D) (run : Result C BridgeFault) (result : Result D BridgeFault)
    → MatchResult run (λ counts. IsOkAnd result (λ d. d ≡ f counts)) (λ fault. result ≡ Err fault) → IfErr run (λ fault. A) → OnErr result A
ahead_given {D = D} A f (Ok counts) result is ahead = subst (λ (r : Result D BridgeFault). OnErr r A) (sym (ok_is result (f counts) is)) tt
ahead_given {D = D} A f (Err fault) result is ahead = subst (λ (r : Result D BridgeFault). OnErr r A) (sym is) ahead

-- nor is how it relates to the complete input
pub ahead_given_by : {C D S T U : Type 0} (f : C → D) (m : Meaning C) (b a : World S T U) (run : Result C BridgeFault) (result : Result D BridgeFault)
    → MatchResult run (λ counts. IsOkAnd result (λ d. d ≡ f counts)) (λ fault. result ≡ Err fault) → Ended m b a run
    → OnErr result (IsAheadOf m.whole (bytes_for m b) b.written a.written b.reported a.reported)
ahead_given_by f m b a run result is ended = ahead_after (giving f m) b a result (given_as f m b a run result is ended)

-- ---- without the counts

abbrev pub forget : {C : Type 0} → Result C BridgeFault → Result (Unit {0}) BridgeFault
forget (Ok counts) = Ok tt
forget (Err fault) = Err fault

pub forgotten : {C S T U : Type 0} (m : Meaning C) (b a : World S T U) (run : Result C BridgeFault) → Ended m b a run → Ended (uncounted m) b a (forget run)
forgotten m b a (Ok counts) done = done_given (λ counts. tt) m b a counts done
forgotten m b a (Err fault) broke = broke_given (λ counts. tt) m b a fault broke

pub status_forgotten : {C : Type 0} (run : Result C BridgeFault) → status_of run ≡ status_of (forget run)
status_forgotten (Ok counts) = refl
status_forgotten (Err fault) = refl

pub ahead_forgotten : {C : Type 0} (A : Type 0) (run : Result C BridgeFault) → OnErr run A → OnErr (forget run) A
ahead_forgotten A (Ok counts) ahead = tt
ahead_forgotten A (Err fault) ahead = ahead

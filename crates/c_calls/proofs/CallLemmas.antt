-- What calls of a deframer give, by induction over them.
use Rattle.std.proofs.Common.{◌≡◌, ℕ, Bool, true, false, not, List, [], ◌∷◌, ◌++◌, length, refl, sym, ap, ◌∙◌, subst, append_assoc, append-nil}
use Rattle.framing.specs.Frames.{frames}
use Rattle.framing.specs.State.{DeframerState}
use Rattle.c_calls.specs.Deframers.{ended, fed, fresh, left}
use Rattle.c_calls.specs.Calls.{Call, Leads, bytes_fed, frames_given}
use Rattle.c_calls.specs.Calls.Call.{Fed, Gave, GaveNone, Finished}

-- behind the end nothing is taken, and nothing follows
abbrev Follow : DeframerState → List Call → DeframerState → List ℕ → Type 0
Follow before calls after following = before.finished ≡ true → (after.finished ≡ true → following ≡ []) → bytes_fed calls ++ following ≡ []

none_follows : (calls : List Call) (before after : DeframerState) (following : List ℕ) → Leads before calls after → Follow before calls after following
none_follows [] before after following leads is last = last (subst (λ (s : DeframerState). s.finished ≡ true) leads is)
none_follows (Fed bytes ∷ calls) before after following leads is last =
    ap (λ (l : List ℕ). (l ++ bytes_fed calls) ++ following) (leads.0 is) ∙ none_follows calls (fed before bytes) after following leads.1 is last
none_follows (Gave frame ∷ calls) before after following leads is last = none_follows calls (left before (length frame)) after following leads.1 is last
none_follows (GaveNone ∷ calls) before after following leads is last = none_follows calls (left before 0) after following leads.1 is last
none_follows (Finished ∷ calls) before after following leads is last = none_follows calls (ended before) after following leads refl last

-- where no byte more may come, none follows
unfinished : (b : Bool) → not b ≡ false → b ≡ true
unfinished true e = refl
unfinished false e = sym e

pub gives_far : (calls : List Call) (before after : DeframerState) (following : List ℕ) → Leads before calls after → (after.finished ≡ true → following ≡ [])
    → frames (before.rest ++ (bytes_fed calls ++ following)) ≡ frames_given calls ++ frames (after.rest ++ following)
gives_far [] before after following leads last = ap (λ (s : DeframerState). frames (s.rest ++ following)) leads
gives_far (Fed bytes ∷ calls) before after following leads last =
    ap (λ (l : List ℕ). frames (before.rest ++ l)) (append_assoc bytes (bytes_fed calls) following)
    ∙ ap frames (sym (append_assoc before.rest bytes (bytes_fed calls ++ following)))
    ∙ gives_far calls (fed before bytes) after following leads.1 last
gives_far (Gave frame ∷ calls) before after following leads last =
    leads.0.stream (bytes_fed calls ++ following) (λ e. none_follows (Gave frame ∷ calls) before after following leads (unfinished before.finished e) last)
    ∙ ap (λ (l : List (List ℕ)). frame ∷ l) (gives_far calls (left before (length frame)) after following leads.1 last)
gives_far (GaveNone ∷ calls) before after following leads last =
    leads.0.stream (bytes_fed calls ++ following) (λ e. none_follows (GaveNone ∷ calls) before after following leads (unfinished before.finished e) last)
    ∙ gives_far calls (left before 0) after following leads.1 last
gives_far (Finished ∷ calls) before after following leads last = gives_far calls (ended before) after following leads last

pub gives_all : (calls : List Call) (after : DeframerState) → Leads fresh calls after → after.rest ≡ [] → frames (bytes_fed calls) ≡ frames_given calls
gives_all calls after leads none =
    ap frames (sym (append-nil (bytes_fed calls))) ∙ gives_far calls fresh after [] leads (λ last. refl)
    ∙ ap (λ (l : List ℕ). frames_given calls ++ frames (l ++ [])) none ∙ append-nil (frames_given calls)

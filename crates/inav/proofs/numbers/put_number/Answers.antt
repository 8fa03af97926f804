use Rattle.std.proofs.Common.{◌≡◌, ℕ, ◌⊎◌, ◌↔◌, List, sym, subst}
use Rattle.std.proofs.lemmas.Bool.{true≢false}
use Rattle.std.proofs.lemmas.List.Sorted.{searched}
use Rattle.std.specs.Prelude.{Contains, Err}
use Rattle.std.specs.List.Sorted.{IsBinarySearchResult}
use Rattle.std.specs.Ordering.{nat_cmp}
use Rattle.inav.specs.Mirrors.{Rises}
use Rattle.inav.proofs.Ascending.{inserted, not_between, not_falling, rises_inserted}
use Rattle.inav.proofs.numbers.put_number.Goals as goal

pub returns-in_ok-insert-in-Err-clause-there : goal.returns-in_ok-insert-in-Err-clause-there
returns-in_ok-insert-in-Err-clause-there c =
    let items = c.args.numbers.now.items in
    let P : List ℕ → Type 0 = λ xs. IsBinarySearchResult (λ y. nat_cmp y c.args.number) xs (Err c.in-Err.place) in
    let is = searched items c.args.number (Err c.in-Err.place) (subst P c.deref.ensures.value c.in-Err.ensures.position) (not_falling items c.requires) in
    (λ h. absurd (true≢false (sym h)), λ h. absurd (not_between items c.in-Err.place c.args.number is.1 is.2 h))

pub returns-in_ok-insert-in-Err-clause-numbers : goal.returns-in_ok-insert-in-Err-clause-numbers
returns-in_ok-insert-in-Err-clause-numbers c = λ q.
    let items = c.args.numbers.now.items in
    let P : List ℕ → Type 0 = λ xs. Contains xs q ↔ (Contains items q ⊎ (c.args.number ≡ q)) in
    subst P (sym c.in_ok-insert-in-Err.ensures.items) (inserted items c.in-Err.place c.args.number q)

pub returns-in_ok-insert-in-Err-clause-rises : goal.returns-in_ok-insert-in-Err-clause-rises
returns-in_ok-insert-in-Err-clause-rises c =
    let items = c.args.numbers.now.items in
    let P : List ℕ → Type 0 = λ xs. IsBinarySearchResult (λ y. nat_cmp y c.args.number) xs (Err c.in-Err.place) in
    let is = searched items c.args.number (Err c.in-Err.place) (subst P c.deref.ensures.value c.in-Err.ensures.position) (not_falling items c.requires) in
    subst Rises (sym c.in_ok-insert-in-Err.ensures.items) (rises_inserted items c.in-Err.place c.args.number is.0 c.requires is.1 is.2)

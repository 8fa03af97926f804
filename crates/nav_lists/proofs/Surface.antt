-- What proofs of other crates cite: of any values, their ranked list.
pub use Rattle.nav_lists.proofs.RankedLemmas.{is_ranked, ranked_again, ranked_only, ranked_set}

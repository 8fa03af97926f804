-- The carried records of a merged file: each that was read once, in order.
use Rattle.std.proofs.Common.{◌≡◌, ℕ, List, [], ◌∷◌, ◌++◌, ◌↔◌, Contains, map, sym, ap, subst, ◌∙◌, append-nil}
use Rattle.std.specs.Prelude.{Result, OnOk}
use Rattle.std.specs.List.Sorted.{IsStrictlySortedBy}
use Rattle.std.specs.declared.cmp.Ordering.TheVariants.{Equal}
use Rattle.std.proofs.lemmas.List.{map-append}
use Rattle.std.proofs.lemmas.Map.Lookups.{exact_bytes}
use Rattle.nav_lists.specs.Ranks.{IsRankedList, ranked_of}
use Rattle.all_systems.specs.CarriedOrder.{CarriedRecord, by_text, kept_record}
use Rattle.all_systems.specs.Files.{carried_in, carried_lines}
use Rattle.all_systems.specs.Merging.{carried_of, firsts, is_carried_before, items_of, merged_entries, merged_items, seconds}
use Rattle.all_systems.specs.FileReadings.{LineRead, Reading}
use Rattle.all_systems.proofs.MergeLaws.{both_equal, first_part, second_part}
use Rattle.all_systems.proofs.Merges.{all_ok, on_ok}
use Rattle.all_systems.proofs.NavLaws.{one_list}
use Rattle.all_systems.proofs.CarriedTexts.{carried_more}

pub entries_items : (reads : List LineRead) → firsts (merged_entries reads) ≡ merged_items (items_of reads)
entries_items reads = first_part is_carried_before (merged_items (items_of reads)) (ranked_of by_text by_text (carried_of reads))

pub entries_records : (reads : List LineRead) → seconds (merged_entries reads) ≡ ranked_of by_text by_text (carried_of reads)
entries_records reads = second_part is_carried_before (merged_items (items_of reads)) (ranked_of by_text by_text (carried_of reads))

-- records that are equal in rank are equal
one_record : (x y : CarriedRecord) → by_text x y ≡ Equal → x ≡ y
one_record x y e =
    let both = both_equal _ _ e in
    let front = one_list x.front y.front both.0 in
    let text = exact_bytes x.text y.text both.1 in
    λ i. record { front = front i; text = text i }

ranked_set : (xs list : List CarriedRecord) → IsRankedList by_text by_text (Contains xs) list → (x : CarriedRecord) → Contains list x ↔ Contains xs x
ranked_set xs list h x = (
  λ k. (h.each x k).here,
  λ k. let m = h.every x k in subst (Contains list) (sym (one_record x m.0 m.2)) m.1,
)

pub record_set : ((xs : List CarriedRecord) → IsRankedList by_text by_text (Contains xs) (ranked_of by_text by_text xs))
    → (reads : List LineRead) (x : CarriedRecord) → Contains (seconds (merged_entries reads)) x ↔ Contains (carried_of reads) x
record_set ranked reads x =
    subst (λ (l : List CarriedRecord). Contains l x ↔ Contains (carried_of reads) x) (sym (entries_records reads))
    (ranked_set (carried_of reads) _ (ranked (carried_of reads)) x)

pub record_order : ((xs : List CarriedRecord) → IsRankedList by_text by_text (Contains xs) (ranked_of by_text by_text xs))
    → (reads : List LineRead) → IsStrictlySortedBy by_text (seconds (merged_entries reads))
record_order ranked reads = subst (IsStrictlySortedBy by_text) (sym (entries_records reads)) (ranked (carried_of reads)).ascending

-- ---- with a record more

pub records_more : (reads : List LineRead) (read : LineRead) → carried_of reads ++ map kept_record (carried_lines read.reading) ≡ carried_of (reads ++ read ∷ [])
records_more reads read =
    sym (map-append kept_record (carried_in reads) (carried_lines read.reading)) ∙ ap (map kept_record) (sym (carried_more reads read))

pub records_stay : {T E : Type 0} (r : Result T E) (x : Reading) (old new : List CarriedRecord) → new ≡ old → carried_lines x ≡ []
    → OnOk r ((xs : List CarriedRecord) → old ≡ ranked_of by_text by_text xs → new ≡ ranked_of by_text by_text (xs ++ map kept_record (carried_lines x)))
records_stay r x old new e none = all_ok r (λ xs k. e ∙ k ∙ ap (ranked_of by_text by_text) (sym (append-nil xs) ∙ ap (λ l. xs ++ map kept_record l) (sym none)))

pub record_kept : {T E : Type 0} (r : Result T E) (x : Reading) (lines : List (List ℕ)) (old new : List CarriedRecord) → carried_lines x ≡ lines ∷ []
    → OnOk r ((xs : List CarriedRecord) → old ≡ ranked_of by_text by_text xs → new ≡ ranked_of by_text by_text (xs ++ kept_record lines ∷ []))
    → OnOk r ((xs : List CarriedRecord) → old ≡ ranked_of by_text by_text xs → new ≡ ranked_of by_text by_text (xs ++ map kept_record (carried_lines x)))
record_kept r x lines old new e =
    on_ok r (λ h xs k. h xs k ∙ ap (λ l. ranked_of by_text by_text (xs ++ map kept_record l)) (sym e))

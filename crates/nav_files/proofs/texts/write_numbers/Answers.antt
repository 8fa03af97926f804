use Rattle.std.proofs.Common.{◌≡◌, ◌+◌, ◌++◌, ◌∷◌, [], ℕ, ℤ, pos, List, get_or, drop, map, length, ap, sym, ◌∙◌, arith}
use Rattle.std.proofs.lemmas.Result.{err_from_is_err_and}
use Rattle.nav_files.specs.Differences.{number_text, numbers_text}
use Rattle.nav_files.specs.DiffMirrors.{are_short}
use Rattle.nav_files.proofs.NumberLemmas.{next_at, numbers_end, others_short, text_at}
use Rattle.nav_files.proofs.WriteLemmas.{cause_behind, cause_done, wrote_all, wrote_more, wrote_prefix}
use Rattle.nav_files.proofs.texts.write_numbers.Goals as goal

pub numbers-preserved : goal.numbers-preserved
numbers-preserved g c =
    let names = next_at c.args.names.now c.numbers.place (record { ref_ptr = (0, 0); now = [] }) (omega (arith, c.numbers-test.true, c.min-count.ensures, c.min.ensures)) in
    let xs = next_at c.args.a.now c.numbers.place (pos 0) (omega (arith, c.numbers-test.true, c.min-count.ensures, c.min.ensures)) in
    let ys = next_at c.args.b.now c.numbers.place (pos 0) (omega (arith, c.numbers-test.true, c.min-count.ensures, c.min.ensures)) in
    record {
      wrote = wrote_more _ _ _ _ _ _ _
          (text_at (λ n. n.now) c.args.head.now c.args.names.now c.args.a.now c.args.b.now c.numbers.place _ _ _ names xs ys
          ∙ ap (λ m. number_text c.args.head.now m (get_or c.args.a.now c.numbers.place (pos 0)) (get_or c.args.b.now c.numbers.place (pos 0))
          ++ numbers_text c.args.head.now (map (λ n. n.now) (drop (c.numbers.place + 1) c.args.names.now)) (drop (c.numbers.place + 1) c.args.a.now) (drop (c.numbers.place + 1) c.args.b.now))
          (sym c.as_bytes.ensures.value))
          c.numbers.invariant.wrote c.in_ok-write_number.ensures.bytes;
      faults = c.in_ok-write_number.ensures.cause.stays ∙ c.numbers.invariant.faults;
      short = others_short (get_or c.args.names.now c.numbers.place (record { ref_ptr = (0, 0); now = [] })).now (map (λ n. n.now) (drop (c.numbers.place + 1) c.args.names.now))
          (sym (ap (λ l. are_short (map (λ n. n.now) l)) names) ∙ c.numbers.invariant.short);
      within = omega (arith, c.numbers-test.true);
    }

pub returns-in_err-write_number : goal.returns-in_err-write_number
returns-in_err-write_number g c =
    let p = err_from_is_err_and c.from_residual.result c.from_residual.ensures.1 in
    let names = next_at c.args.names.now c.numbers.place (record { ref_ptr = (0, 0); now = [] }) (omega (arith, c.numbers-test.true, c.min-count.ensures, c.min.ensures)) in
    let xs = next_at c.args.a.now c.numbers.place (pos 0) (omega (arith, c.numbers-test.true, c.min-count.ensures, c.min.ensures)) in
    let ys = next_at c.args.b.now c.numbers.place (pos 0) (omega (arith, c.numbers-test.true, c.min-count.ensures, c.min.ensures)) in
    rw (p.1, p.2) (record {
      bytes = wrote_prefix _ _ _ _ _ _ _
          (text_at (λ n. n.now) c.args.head.now c.args.names.now c.args.a.now c.args.b.now c.numbers.place _ _ _ names xs ys
          ∙ ap (λ m. number_text c.args.head.now m (get_or c.args.a.now c.numbers.place (pos 0)) (get_or c.args.b.now c.numbers.place (pos 0))
          ++ numbers_text c.args.head.now (map (λ n. n.now) (drop (c.numbers.place + 1) c.args.names.now)) (drop (c.numbers.place + 1) c.args.a.now) (drop (c.numbers.place + 1) c.args.b.now))
          (sym c.as_bytes.ensures.value))
          c.numbers.invariant.wrote c.in_err-write_number.ensures.bytes;
      cause = cause_behind _ _ _ _ c.numbers.invariant.faults c.in_err-write_number.ensures.cause;
    })

pub returns : goal.returns
returns g c = record {
  bytes = wrote_all _ _ _ _
      (numbers_end (λ n. n.now) c.args.head.now c.args.names.now c.args.a.now c.args.b.now c.numbers.place (omega (arith, c.numbers-test.false, c.min-count.ensures, c.min.ensures)))
      c.numbers.invariant.wrote;
  cause = cause_done _ _ _ c.numbers.invariant.faults;
}

use Rattle.std.proofs.Common.{◌≡◌, ◌+◌, ℕ, length, drop, min, sym, ap, arith, ◌∙◌}
use Rattle.nav_io.specs.Memory.{SourceState}
use Rattle.nav_io.proofs.Cuts.{drop-next}
use Rattle.nav_io.proofs.Rests.{drop-given, drop-none}
use Rattle.nav_io.proofs.memory.MemSourceSource.read.Goals as goal

pub returns-clause-bytes : goal.returns-clause-bytes
returns-clause-bytes c = (
  ap (λ (s : SourceState). s.left) (sym c.self.view_is) ∙ drop-given _ _ _ _ _ c.deref-3.ensures.value c.give-count.ensures.bytes,
  λ zero room. drop-none _ _ _ _ c.deref-3.ensures.value (c.give-count.ensures.end zero room),
)

pub returns-clause-cuts : goal.returns-clause-cuts
returns-clause-cuts c =
    let len : c.len.result ≡ length c.self.inside.cuts.items = omega (arith, c.self.inside.cuts.ok.0) in
    ap (λ (n : ℕ). drop n c.self.inside.cuts.items) (c.min-self-inside.ensures ∙ ap (min (c.self.inside.successes + 1)) len)
    ∙ drop-next c.self.inside.cuts.items c.self.inside.successes ∙ ap (λ (s : SourceState). drop 1 s.cuts) c.self.view_is

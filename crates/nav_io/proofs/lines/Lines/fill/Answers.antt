use Rattle.std.proofs.Common.{◌≡◌, ◌+◌, ◌≤◌, ◌∙◌, ℕ, List, length, take, drop, ap, arith, length-drop, length-take, length-append}
use Rattle.nav_io.proofs.lines.Lines.fill.Goals as goal

-- how much is kept
few : (kept rest : List ℕ) → kept ≡ take 2202 rest → (length kept ≤ 2202) × (length kept ≤ length rest)
few kept rest e = let n : length kept ≡ length (take 2202 rest) = ap length e in (omega (arith, n, length-take 2202 rest), omega (arith, n, length-take 2202 rest))

pub append-requires : goal.append-requires
append-requires g c =
    let i = c.self.inside in
    let kept = few c.keep_open.new.held.items (drop i.start i.held.items) c.keep_open.ensures in
    omega (arith, kept.0, c.in-Ok.ensures.count, c.in-Ok.ensures.within)

pub invariant_of-self : goal.invariant_of-self
invariant_of-self g c =
    let i = c.self.inside in
    let kept = few c.keep_open.new.held.items (drop i.start i.held.items) c.keep_open.ensures in
    let all : length c.append.new.held.items ≡ length c.keep_open.new.held.items + length (take c.in-Ok.count c.read_piece.new.piece) =
    ap length c.append.ensures ∙ length-append c.keep_open.new.held.items (take c.in-Ok.count c.read_piece.new.piece) in
    let low = rw (← c.self.view_is) at c.requires.low in (
      omega arith,
      omega arith,
      omega (arith, kept.1, all, c.in-Ok.ensures.count, c.self.invariant.2, length-drop i.start i.held.items),
      omega (arith, c.in-Ok.ensures.most, low),
    )

pub invariant_of-self-in-Err : goal.invariant_of-self-in-Err
invariant_of-self-in-Err g c =
    let i = c.self.inside in
    let kept = few c.keep_open.new.held.items (drop i.start i.held.items) c.keep_open.ensures in
    (omega arith, omega arith, omega (arith, kept.1, c.self.invariant.2, length-drop i.start i.held.items), omega (arith, c.self.invariant.3))

use Rattle.std.proofs.Common.{◌≡◌, ◌+◌, ◌++◌, ◌≤◌, ◌∙◌, ℕ, List, ap, arith, drop, length, length-drop, length-take, take}
use Rattle.nav_io.specs.Lines.{ends}
use Rattle.rinex_lines.specs.OlderMirrors.{HeldState}
use Rattle.rinex_lines.proofs.Cuts.{part_first}
use Rattle.rinex_lines.proofs.held.Held.go_on.Goals as goal

-- the count is within the bytes that are behind
inside : (start end count : ℕ) (piece rest : List ℕ) → drop start (take end piece) ≡ rest → count ≤ length rest → start ≤ end
    → start + count ≤ end
inside start end count piece rest is within low =
    let all : length (drop start (take end piece)) ≡ length rest = ap length is in
    omega (arith, within, low, all, length-drop start (take end piece), length-take end piece)

pub begin-requires-clause-none : goal.begin-requires-clause-none
begin-requires-clause-none c =
    let i = c.self.inside in
    let behind : drop i.start (take i.end i.piece) ≡ c.args.self.now.piece = ap (λ (h : HeldState). h.piece) c.self.view_is in
    ap ends (part_first i.start c.args.count i.end i.piece (inside i.start i.end c.args.count i.piece _ behind c.requires.within (omega arith)))
    ∙ ap (λ (l : List ℕ). ends (take c.args.count l)) behind ∙ c.requires.none

pub returns-clause-begun : goal.returns-clause-begun
returns-clause-begun c =
    let i = c.self.inside in
    let behind : drop i.start (take i.end i.piece) ≡ c.args.self.now.piece = ap (λ (h : HeldState). h.piece) c.self.view_is in
    let begun : i.begun.items ≡ c.args.self.now.begun = ap (λ (h : HeldState). h.begun) c.self.view_is in
    c.begin.ensures.items
    ∙ ap (λ (l : List ℕ). take 81 (i.begun.items ++ l))
    (part_first i.start c.args.count i.end i.piece (inside i.start i.end c.args.count i.piece _ behind c.requires.within (omega arith)))
    ∙ ap (λ (l : List ℕ). take 81 (i.begun.items ++ take c.args.count l)) behind
    ∙ ap (λ (l : List ℕ). take 81 (l ++ take c.args.count c.args.self.now.piece)) begun

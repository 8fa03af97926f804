-- Of the lines of a record only those that are stored matter.
use Rattle.std.proofs.Common.{◌≡◌, ℕ, zero, suc, List, [], ◌∷◌, map, take, ap, ◌∙◌, refl, arith}
use Rattle.rinex_read.proofs.Surface.{columns_alike, padded_alike}
use Rattle.rinex_read.specs.Form3.{rinex3}
use Rattle.rinex_read.specs.Forms.{LooksAtKept, read_at, rinex4}
use Rattle.rinex_read.specs.Kept.{padded}
use Rattle.rinex_read.specs.declared.judged.Judged.{Judged}
use Rattle.rinex_read.specs.declared.judged.Judged.TheVariants.{Item, Refused, PassedOver}
use Rattle.all_systems.specs.declared.kinds.Kinds.{Kinds}
use Rattle.all_systems.specs.FileReadings.{lines_reading, nav_judged, own_lines, reading_by, reading_in}
use Rattle.all_systems.specs.declared.version.Version.{Version}
use Rattle.all_systems.specs.declared.version.Version.TheVariants.{Four, Three}

kept_again : (n : ℕ) (ls : List (List ℕ)) → map padded (take n (map padded (take n ls))) ≡ map padded (take n ls)
kept_again zero ls = refl
kept_again (suc n) [] = refl
kept_again (suc n) (l ∷ ls) =
    ap (λ (x : List ℕ). x ∷ map padded (take n (map padded (take n ls)))) (columns_alike 80 0 (padded l) l (padded_alike l) (omega arith))
    ∙ ap (λ (xs : List (List ℕ)). padded l ∷ xs) (kept_again n ls)

one_judgment : (a b : Judged) → read_at 0 a ≡ read_at 0 b → a ≡ b
one_judgment (Item i) (Item j) e = cc
one_judgment (Item i) (Refused r) e = cc
one_judgment (Item i) PassedOver e = cc
one_judgment (Refused r) (Item j) e = cc
one_judgment (Refused r) (Refused s) e = cc
one_judgment (Refused r) PassedOver e = cc
one_judgment PassedOver (Item j) e = cc
one_judgment PassedOver (Refused s) e = cc
one_judgment PassedOver PassedOver e = refl

nav_kept : LooksAtKept rinex4 → LooksAtKept rinex3 → (v : Version) (lines : List (List ℕ)) → nav_judged v (map padded (take 18 lines)) ≡ nav_judged v lines
nav_kept four three Four lines = one_judgment _ _ (four 0 lines)
nav_kept four three Three lines = one_judgment _ _ (three 0 lines)

pub reading_kept : LooksAtKept rinex4 → LooksAtKept rinex3 → (ks : Kinds) (v : Version) (lines : List (List ℕ)) → reading_in ks v (map padded (take 18 lines)) ≡ reading_in ks v lines
reading_kept four three ks v lines = ap (reading_by ks v (map padded (take 18 lines))) (nav_kept four three v lines) ∙ by (nav_judged v lines)
  where
    by : (j : Judged) → reading_by ks v (map padded (take 18 lines)) j ≡ reading_by ks v lines j
    by (Item item) = refl
    by (Refused reason) = refl
    by PassedOver = ap (λ (ls : List (List ℕ)). lines_reading ks v (own_lines ls)) (kept_again 18 lines)

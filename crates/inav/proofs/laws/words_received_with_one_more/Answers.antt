use Rattle.std.proofs.Common.{◌≡◌, ◌⊎◌, ◌∷◌}
use Rattle.std.specs.Prelude.{Contains}
use Rattle.inav.specs.Received.{StampedHalf}
use Rattle.inav.proofs.Membership.{contains_cons}
use Rattle.inav.proofs.InavPageSurface.{heard_with_one_more, still_heard}
use Rattle.inav.proofs.laws.words_received_with_one_more.Goals as goal

pub returns : goal.returns
returns c kept taken even odd =
    let More : StampedHalf → Type 0 = Contains (taken ∷ kept) in
    let Either : StampedHalf → Type 0 = λ half. (taken ≡ half) ⊎ Contains kept half in
    let both = heard_with_one_more (Contains kept) taken even odd in (
      λ h. both.0 (still_heard More Either even odd (λ half there. (contains_cons taken kept half).0 there) h),
      λ h. still_heard Either More even odd (λ half there. (contains_cons taken kept half).1 there) (both.1 h),
    )

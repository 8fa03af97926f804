use Rattle.std.proofs.Common.{◌≡◌, ◌-◌, ◌<◌, ◌≤◌, ◌++◌, length, take}
use Rattle.nav_lists.proofs.items.Items.next_few.Given as goal

abbrev pub invariant-copying : goal.invariant-copying
invariant-copying l = record {
  few : l.fn.self ≡ take l.count l.items ++ l.self;
  some : 0 < l.count;
  most : l.count ≤ 8;
  room : length l.items ≡ 8;
}

abbrev pub decreases-copying : goal.decreases-copying
decreases-copying l = 8 - l.count

-- The names that the walks of the exports cite.
pub use Rattle.std.proofs.Common.{◌≡◌, ℕ, List, [], ◌∷◌, ◌++◌, take, map, refl, ap, w32, w64}
pub use Rattle.std.proofs.raw_atomic.Walks.{proved}
pub use base.Fraction.{full_share}
pub use base.Logic.{id⊢}
pub use base.Fml.{Lft, GName, ftrue, fsep, fex, flft, fres, flent}
pub use mir.Syntax.{named}
pub use mir.Val.{vunit, vptr}
pub use prog.Wp.{WpFn}
pub use contract.Monad.{fact}
pub use contract.Running.{tables}
pub use types.Kit.{‵, raw, ◌⊛◌, some, later, prop, ◌$◌, ◌∵◌, !, qed, done, move, keep, drop, use1, use2, use3, split, join, fsplit, fjoin, fpack, feq_i, feq_l, pick, await, rewrite, regoal, suffices, frame, group}
pub use types.Run.{enter, of_opd, unit_lit, addr, from, fld, hop, stop, no_more, and_then, assigns, init, returns}
pub use types.Part.{agg, whole, sub}
pub use types.ByLocal.{alloc_all, pass_all, free_all, look_at, look_in_at, get, get_in, through, sets, lands_as}
pub use types.SemTy.{Body}
pub use types.Tokens.{lft_new, lft_end}
pub use borrow.Table.OneValue.{part_in}
pub use denote.Builtin.{u8, u32, unit, usize}
pub use denote.Exit.{yes}
pub use denote.Laws.{Is, shows}
pub use denote.Lend.{lends_ref, ref_back}
pub use denote.Memory.{mem, part_at}
pub use denote.Plain.{uint_Lawful, uint_vals, uint_Tells}
pub use denote.RawPtr.{Ptr, RawPtr, block_ptr, lies_at, room_at, in_a_block, rawptr_vals, rawptr_Tells}
pub use denote.Ref.{MutRef, mut_vals, mut_Tells, ShrRef, shr_vals, shr_Tells}
pub use denote.Signature.{plain, shr_ref_to, shr_slice_of}
pub use denote.Slice.{MutSlice, ShrSlice, mut_slice_vals, mut_slice_Tells, shr_slice_vals, shr_slice_Tells}
pub use denote.Steps.{nothing, heard, only, peeks}
pub use denote.Triple.Call.{calls_at}
pub use denote.Triple.Clauses.{lasts}
pub use denote.Triple.Entry.{on_entry}
pub use denote.Triple.Spec.{triple_of}
pub use denote.Triple.Walked.{Stays, walk_of, says, stay_dropped, Goes-dropped, gave_ref, Goes-gave_ref, gave_slice, Goes-gave_slice, ends_at}
pub use denote.Triple.Table.{framed}
pub use Rattle.framing.specs.State.{DeframerState}
pub use Rattle.framing.specs.contracts.deframer.Deframer.{the_row as R}
pub use Rattle.framing.proofs.deframer.Deframer.TheLaws.{the_row_laws}
pub use Rattle.c_calls.specs.Pushes.{PushState}
pub use Rattle.c_calls.specs.contracts.push.PushedJob.{the_row as P}
pub use Rattle.c_calls.proofs.push.PushedJob.TheLaws.{the_row_laws as push_laws}
pub use Rattle.c_calls.specs.PagePairs.{PagesState}
pub use Rattle.c_calls.specs.contracts.state_pages.PagePairs.{the_row as Q}
pub use Rattle.c_calls.proofs.state_pages.PagePairs.TheLaws.{the_row_laws as pages_laws}
pub use Rattle.std.specs.contracts.alloc.Global.{the_row as Heap}
pub use Rattle.std.proofs.alloc.Global.TheLaws.{the_row_laws as heap_laws}
use mir.Val.{Val, vstruct, vnil, vcons}
use denote.Laws.{Tells}
use denote.Struct.Laws as structs
use Rattle.std.specs.contracts.alloc.Global as heap
use Rattle.std.proofs.alloc.Global.TheLaws as laws

-- the allocator in the machine: it has no bytes
abbrev pub heap_val : Val
heap_val = vstruct (vcons (vstruct (vcons vunit vnil)) vnil)

pub heap_Tells : Tells heap.the_row (Is heap.the_row) (λ _. heap_val ∷ [])
heap_Tells = structs.tells heap.the_type laws.the_laws

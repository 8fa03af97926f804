use Rattle.std.proofs.Common.{refl}
use Rattle.all_systems.proofs.Cells.{cell}
use Rattle.all_systems.proofs.nav_numbers.galileo_numbers.Goals as goal

pub returns : goal.returns
returns c =
    cell c.value.type_inv c.value.ensures.same (
    cell c.value-2.type_inv c.value-2.ensures.same (
    cell c.value-3.type_inv c.value-3.ensures.same (
    cell c.unsigned.type_inv c.unsigned.ensures (
    cell c.value-4.type_inv c.value-4.ensures.same (
    cell c.value-5.type_inv c.value-5.ensures.same (
    cell c.value-6.type_inv c.value-6.ensures.same (
    cell c.value-7.type_inv c.value-7.ensures.same (
    cell c.unsigned-2.type_inv c.unsigned-2.ensures (
    cell c.value-8.type_inv c.value-8.ensures.same (
    cell c.unsigned-3.type_inv c.unsigned-3.ensures (
    cell c.steps60.type_inv c.steps60.ensures (
    cell c.value-9.type_inv c.value-9.ensures.same (
    cell c.value-10.type_inv c.value-10.ensures.same (
    cell c.value-11.type_inv c.value-11.ensures.same (
    cell c.value-12.type_inv c.value-12.ensures.same (
    cell c.value-13.type_inv c.value-13.ensures.same (
    cell c.value-14.type_inv c.value-14.ensures.same (
    cell c.value-15.type_inv c.value-15.ensures.same (
    cell c.value-16.type_inv c.value-16.ensures.same (
    cell c.week.type_inv c.week.ensures (
    cell c.accuracy.type_inv c.accuracy.ensures (
    cell c.unsigned-4.type_inv c.unsigned-4.ensures (
    cell c.unsigned-5.type_inv c.unsigned-5.ensures (
    cell c.unsigned-6.type_inv c.unsigned-6.ensures (
    cell c.unsigned-7.type_inv c.unsigned-7.ensures (
    cell c.value-17.type_inv c.value-17.ensures.same (
    cell c.value-18.type_inv c.value-18.ensures.same (
    cell c.steps60-2.type_inv c.steps60-2.ensures (
    cell c.unsigned-8.type_inv c.unsigned-8.ensures (
    cell c.unsigned-9.type_inv c.unsigned-9.ensures (
    cell c.unsigned-10.type_inv c.unsigned-10.ensures (
    cell c.place.type_inv c.place.ensures (
    refl)))))))))))))))))))))))))))))))))

-- The messages that hand-written readers read, as numbers of their tables.
use Rattle.std.specs.Prelude.{ℕ, List, [], ◌∷◌, ℤ, pos}
use Rattle.rtcm_eph.specs.declared.message1019.Message1019.{Message1019}
use Rattle.rtcm_eph.specs.declared.message1046.Message1046.{Message1046}

-- the numbers of message 1019 in the order of its fields, after the message number
abbrev pub numbers_1019 : ℕ → Message1019 → List ℤ
numbers_1019 number m =
    pos number ∷ pos m.satellite ∷ pos m.week ∷ pos m.ura ∷ pos m.l2_code ∷ m.idot ∷ pos m.iode
    ∷ pos m.toc ∷ m.af2
    ∷ m.af1 ∷ m.af0 ∷ pos m.iodc ∷ m.crs ∷ m.delta_n ∷ m.m0 ∷ m.cuc ∷ pos m.e ∷ m.cus
    ∷ pos m.root_a ∷ pos m.toe ∷ m.cic
    ∷ m.omega0 ∷ m.cis ∷ m.i0 ∷ m.crc ∷ m.omega ∷ m.omega_dot ∷ m.tgd ∷ pos m.health ∷ pos m.l2p
    ∷ pos m.fit ∷ []

-- the numbers of message 1046 in the order of its fields, after the message number
abbrev pub numbers_1046 : ℕ → Message1046 → List ℤ
numbers_1046 number m =
    pos number ∷ pos m.satellite ∷ pos m.week ∷ pos m.iodnav ∷ pos m.sisa ∷ m.idot ∷ pos m.toc
    ∷ m.af2 ∷ m.af1 ∷ m.af0
    ∷ m.crs ∷ m.delta_n ∷ m.m0 ∷ m.cuc ∷ pos m.e ∷ m.cus ∷ pos m.root_a ∷ pos m.toe ∷ m.cic
    ∷ m.omega0 ∷ m.cis ∷ m.i0
    ∷ m.crc ∷ m.omega ∷ m.omega_dot ∷ m.bgd_a ∷ m.bgd_b ∷ pos m.hs_e5b ∷ pos m.dvs_e5b
    ∷ pos m.hs_e1b ∷ pos m.dvs_e1b
    ∷ pos 0 ∷ []

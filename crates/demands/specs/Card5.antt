-- Card 5, the second kind off the disc: answers of operation 5 by each route, as a table. `proofs/Card5.antt` has one theorem over it. That operation 5 is refused where operation 8 is, by the same number, and the refusals of both at the edges are in `Card2.antt`.
use Rattle.std.specs.Prelude.{ℕ, List, [], ◌∷◌}
use Rattle.arith.specs.Double.{bits}
use Rattle.requests.specs.Answers.{Answer, Quadruple}
use Rattle.requests.specs.declared.checking.Mode.{Mode}

-- a mode, the bits of cv and of x, and the answer
abbrev pub Row : Type 0
Row = Mode × ℕ × ℕ × Answer

-- m, n, the bits of c, of cv and of x, and those of value and derivative of the first kind and of the second, as the program prints them
abbrev answered : ℕ → ℕ → ℕ → ℕ → ℕ → ℕ → ℕ → ℕ → ℕ → Row
answered m n c cv x v1 d1 v2 d2 = (record { m = m; n = n; c = bits c }, cv, x, Quadruple (bits v1) (bits d1) (bits v2) (bits d2))

-- m = n = 0, c 1, its characteristic value, x 1e-8: by `rmn2so`
abbrev pub by_rmn2so : Row
by_rmn2so = answered 0 0 0x3ff0_0000_0000_0000 0xbfd6_4f80_7042_0b40 0x3e45_798e_e230_8c3a 0x3fec_a923_dd73_592b 0xbde2_cbb4_ebff_45af 0xbff4_0991_8a37_9f52 0x3ff1_dd3a_fa41_85c2

-- m 1, n 5, c 1e-20, cv 3: x 1e-8 goes by `rmn2so`, which gives 1e300 twice, and the double after it by `rmn2l`
abbrev pub at_limit : Row
at_limit = answered 1 5 0x3bc7_9ca1_0c92_4223 0x4008_0000_0000_0000 0x3e45_798e_e230_8c3a 0x23b1_e667_beda_5843 0x257a_ac50_e146_5b69 0x7e37_e43c_8800_759c 0x7e37_e43c_8800_759c

abbrev pub past_limit : Row
past_limit = answered 1 5 0x3bc7_9ca1_0c92_4223 0x4008_0000_0000_0000 0x3e45_798e_e230_8c3b 0x23b1_e667_beda_5845 0x257a_ac50_e146_5b6e 0xe517_5200_00d9_719c 0x66c1_5fff_22e2_021c

-- m = n = 1, c 4.25, its characteristic value: by `rmn2l`. The first term of the derivative's sum meets the sum remembered from the value's. Cleared, that would give −0.499 for the last number, which is −0.207
abbrev pub remembered : Row
remembered = answered 1 1 0x4011_0000_0000_0000 0xc00e_d118_bd35_e372 0x3ff4_babd_b4aa_d330 0xbfc2_dd01_a49f_1d50 0x3fd1_7860_0ca2_a1ff 0xbfaa_c413_0f44_e92e 0xbfca_82b5_59c9_183f

abbrev pub both_off_disc : List Row
both_off_disc = by_rmn2so ∷ at_limit ∷ past_limit ∷ remembered ∷ []

-- What computing an answer unfolds, routine by routine. A theorem by computation names this list alone.
use mathlib.Core.Bool.{Bool, true}
use lib.Ieee.{add, sub, mul, div, neg, lt, le, eq, of_int, of_bits, to_bits, to_unsigned, to_signed}
use Rattle.arith.specs.Choice.{abs, lesser, greater}
use Rattle.arith.specs.Powers.{power}
use Rattle.arith.specs.Root.{sqrt}
use Rattle.arith.specs.Inside.Scaled as Scaled
use Rattle.circle.specs.Inside.FixedValues as Fixed
use Rattle.circle.specs.Inside.CircleValues as Circle
use Rattle.sines.specs.Inside.SmallValues as Small
use Rattle.sines.specs.Inside.SineValues as Sines
use Rattle.logarithms.specs.Inside.LogarithmValues as Logarithms
use Rattle.arctangents.specs.Inside.ArctangentValues as Arctangents
use Rattle.bessel.specs.Secant as Secant
use Rattle.bessel.specs.Msta1.{first_order, msta1}
use Rattle.bessel.specs.Msta2.{search_for, ten_more, msta2}
use Rattle.bessel.specs.Sphj as Sphj
use Rattle.bessel.specs.Sphy as Sphy
use Rattle.sturm.specs.Entries.{first_entries, blank_entries, entry_e}
use Rattle.sturm.specs.Bounds.{bounds_of, bounds_from, widen}
use Rattle.sturm.specs.Pivots.{negative_pivots, pivots_at, next_pivot, divisor}
use Rattle.segv.specs.Bisection.{with_midpoint, converged, tighten, tighten_counted, tighten_others, bisection}
use Rattle.segv.specs.Families.{first_below, raised, opened_at, blank_bracket, family_from, bisected_family, family_of, both_families, either_stopped}
use Rattle.segv.specs.Row.{mode_at, written, written_row, segv_row}
use Rattle.expansion.specs.Terms.{terms_of, clamped}
use Rattle.expansion.specs.Products.{rising, rising_by}
use Rattle.expansion.specs.Sums as Sums
use Rattle.expansion.specs.Sdmn as Sdmn
use Rattle.expansion.specs.Sckb.{regulator, terms, first_factor, sum_of, factorial, filled, sckb}
use Rattle.angular.specs.Aswfa.{nm2_of, a0_of, negligible, summed, su1_of, su2_of, derivative_at_one, derivative_inside, before_signs, sign_at, aswfa}
use Rattle.joining.specs.Sums as Joining
use Rattle.joining.specs.Kmn as Kmn
use Rattle.joining.specs.Qstar as Qstar
use Rattle.joining.specs.Cbk as Cbk
use Rattle.radial_sums.specs.Limits.{first_terms, second_terms}
use Rattle.radial_sums.specs.BesselSums as BesselSums
use Rattle.radial_sums.specs.Common.{common}
use Rattle.radial_sums.specs.Rmn1 as Rmn1
use Rattle.radial_sums.specs.Rmn2l as Rmn2l
use Rattle.radial.specs.Gmn as Gmn
use Rattle.radial.specs.Rmn2so.{combined, turned, rmn2so}
use Rattle.radial.specs.Rswfo.{kept_or, second_kind, with_second, rswfo, first_kind}
use Rattle.requests.specs.Refusals.{sign_of, entries_of, out_of_range, no_parameter, refusal_of, too_many_terms, not_finite, radial_mode_refusal, too_far}
use Rattle.rows.specs.Rows.{too_short, zero_at, row_in, row_of, blank_slices, lessened, dlmf_in, dlmf_of}
use Rattle.modes.specs.Angular.{outside, angular_refusal, angular_pair, angular_of}
use Rattle.modes.specs.Radial.{radial_refusal, quadruple_or_refusal, radial_of}
use Rattle.modes.specs.FirstKind.{pair_or_refusal, first_of}

unfoldable doubles : Bool
unfolding add sub mul div neg lt le eq of_int of_bits to_bits to_unsigned to_signed abs power sqrt
doubles = true

unfoldable refusals : Bool
unfolding sign_of entries_of out_of_range no_parameter refusal_of too_many_terms not_finite radial_mode_refusal too_far terms_of
refusals = true

unfoldable rows : Bool
unfolding row_of row_in too_short zero_at blank_slices lessened dlmf_in dlmf_of written written_row segv_row either_stopped both_families family_of bisected_family family_from bisection
rows = true

unfoldable bisected : Bool
unfolding lesser greater first_entries blank_entries entry_e bounds_of bounds_from widen negative_pivots pivots_at next_pivot divisor with_midpoint converged tighten tighten_counted tighten_others first_below raised opened_at blank_bracket mode_at
bisected = true

unfoldable coefficients : Bool
unfolding Sdmn.sdmn Sdmn.recurrence_of Sdmn.expanded Sdmn.normalised Sdmn.norm_of Sdmn.r4_of Sdmn.sum_past Sdmn.factor_at Sdmn.sum_up_to Sdmn.sum_on Sdmn.ascended Sdmn.climbed Sdmn.stored_below Sdmn.descend Sdmn.exceeds Sdmn.reduced_places Sdmn.scaled Sdmn.reduced Sdmn.too_large Sdmn.second Sdmn.above Sdmn.below sckb filled factorial sum_of first_factor terms regulator Sums.settled Sums.blank rising rising_by clamped
coefficients = true

unfoldable pairs : Bool
unfolding angular_of angular_refusal angular_pair outside aswfa sign_at before_signs derivative_inside derivative_at_one su1_of su2_of summed negligible a0_of nm2_of
pairs = true

unfoldable quadruples : Bool
unfolding radial_of radial_refusal quadruple_or_refusal rswfo with_second second_kind rmn2so Rmn1.rmn1 Rmn1.on_disc Rmn1.placed Rmn1.r2_of Rmn1.powers_on Joining.sa0_above Joining.sa0_below Joining.parity_power Joining.expansion_partial Joining.sum_on Joining.stops Joining.settled_by first_terms second_terms
quadruples = true

unfoldable logarithms : Bool
unfolding Scaled.scaled Fixed.unpacked Fixed.guarded Logarithms.turned Logarithms.binary_log Logarithms.ten_log Logarithms.parts Logarithms.guess_of Logarithms.guess Logarithms.tested_below Logarithms.tested_above Logarithms.log_above_zero Logarithms.log10
logarithms = true

unfoldable sines : Bool
unfolding Fixed.high Fixed.horner Fixed.parts Fixed.lowered Fixed.tested Circle.doubled Circle.cosine_sum Circle.sine_sum Circle.first Circle.circle Small.split Small.own_square Small.even_sum Small.odd_sum Small.placed Small.upper Small.tested_share Small.low_sine Small.low_cosine Sines.scaled Sines.reduced Sines.sine_series Sines.cosine_series Sines.guess Sines.far_cosine Sines.far_sine Sines.ranged_cosine Sines.ranged_sine Sines.cosine Sines.sine
sines = true

unfoldable bessels : Bool
unfolding Secant.envj Secant.may_try Secant.secant Secant.searched first_order msta1 search_for ten_more msta2 Sphj.blank Sphj.tiny Sphj.searched_orders Sphj.orders Sphj.lowest Sphj.step Sphj.steps_down Sphj.factor Sphj.scaled Sphj.derived Sphj.sj Sphj.dj
bessels = true

unfoldable first_kinds : Bool
unfolding first_of pair_or_refusal first_kind common Rmn1.rmn1 Rmn1.to_half Rmn1.joined Rmn1.off_disc BesselSums.lg BesselSums.factor BesselSums.bessel_on logarithms sines bessels
first_kinds = true

unfoldable arctangents : Bool
unfolding Arctangents.reaches Arctangents.above Arctangents.below Arctangents.further Arctangents.encloses Arctangents.fine Arctangents.beneath Arctangents.is_sure Arctangents.arctangent_series Arctangents.beside Arctangents.guess Arctangents.halved Arctangents.bisected_from Arctangents.bisected Arctangents.arctangent_above_zero Arctangents.ranged_arctangent Arctangents.arctangent
arctangents = true

unfoldable second_kinds : Bool
unfolding kept_or Sphy.near_zero Sphy.filled Sphy.lowest Sphy.steps_up Sphy.recurred Sphy.sy Sphy.dy Sphy.highest Rmn2l.large_on Rmn2l.int_x86 Rmn2l.lost Rmn2l.rmn2l combined turned Gmn.ends Gmn.slope_term Gmn.sum_on Gmn.gmn Kmn.r2_of Kmn.sa0_of Kmn.kmn Qstar.sk_at Qstar.s_at Qstar.ap_up_to Qstar.product_of Qstar.qs0_at Qstar.parity_sign Qstar.qstar Cbk.first_index Cbk.r1_at Cbk.added Cbk.s1_from Cbk.right_sides Cbk.rows Cbk.eliminated Cbk.substituted Cbk.cbk arctangents
second_kinds = true

unfoldable pub computed : Bool
unfolding doubles refusals rows bisected coefficients pairs quadruples first_kinds second_kinds
computed = true

-- `stream::response::respond` meets its contract: the match is the definition's. Assumes nothing.
use mathlib.Core.Path.{sym, ap, ◌∙◌}
use native.Mathlib.Omega.{arith}
use Rattle.std.specs.Prelude.{Ok}
use Rattle.stream.specs.Response.{text_of}
use Rattle.stream.proofs.Laws as laws
use Rattle.stream.proofs.response.respond.Goals as goal

pub returns-in-Err : goal.returns-in-Err
returns-in-Err c =
    let p = c.r_line.ensures in
    record { put = laws.put_same (laws.text_err c.args.index c.args.request _ (sym c.try_from.ensures ∙ c.in-Err.is)) (rw c.number.ensures at p.put); upper_bound = omega (arith, p.upper_bound) }

pub returns-in-Row : goal.returns-in-Row
unfolding text_of
returns-in-Row c =
    let p = c.respond_row.ensures in
    record { put = laws.put_same (laws.text_ok c.args.index c.args.request _ (sym c.try_from.ensures ∙ c.in-Ok.is ∙ ap Ok c.in-Row.is)) p.put; upper_bound = omega (arith, p.upper_bound) }

pub returns-in-DlmfRow : goal.returns-in-DlmfRow
unfolding text_of
returns-in-DlmfRow c =
    let p = c.respond_dlmf_row.ensures in
    record { put = laws.put_same (laws.text_ok c.args.index c.args.request _ (sym c.try_from.ensures ∙ c.in-Ok.is ∙ ap Ok c.in-DlmfRow.is)) p.put; upper_bound = omega (arith, p.upper_bound) }

pub returns-in-Angular : goal.returns-in-Angular
unfolding text_of
returns-in-Angular c =
    let p = c.put_pair.ensures in
    record { put = laws.put_same (laws.text_ok c.args.index c.args.request _ (sym c.try_from.ensures ∙ c.in-Ok.is ∙ ap Ok c.in-Angular.is)) (rw c.angular-answer.ensures at p.put); upper_bound = omega (arith, p.upper_bound) }

pub returns-in-Radial : goal.returns-in-Radial
unfolding text_of
returns-in-Radial c =
    let p = c.put_radial.ensures in
    record { put = laws.put_same (laws.text_ok c.args.index c.args.request _ (sym c.try_from.ensures ∙ c.in-Ok.is ∙ ap Ok c.in-Radial.is)) (rw c.radial-answer.ensures at p.put _); upper_bound = omega (arith, p.upper_bound) }

pub returns-in-FirstKind : goal.returns-in-FirstKind
unfolding text_of
returns-in-FirstKind c =
    let p = c.put_pair-in-FirstKind.ensures in
    record { put = laws.put_same (laws.text_ok c.args.index c.args.request _ (sym c.try_from.ensures ∙ c.in-Ok.is ∙ ap Ok c.in-FirstKind.is)) (rw c.first_kind-answer.ensures at p.put); upper_bound = omega (arith, p.upper_bound) }

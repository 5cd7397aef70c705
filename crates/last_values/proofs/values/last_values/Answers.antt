-- `last_values::values::last_values` meets its contract. Assumes nothing.
use mathlib.Core.Path.{refl, sym, ◌∙◌}
use native.Mathlib.Omega.{arith}
use Rattle.last_values.proofs.Rows as rows
use Rattle.last_values.proofs.values.last_values.Goals as goal

pub open_lanes-requires : goal.open_lanes-requires
open_lanes-requires c =
    let pre = c.requires in
    record { m_bound = (pre.m_bound.0, omega arith); by_index = pre.by_index }

pub run-requires : goal.run-requires
run-requires c = λ j l. (c.open_lanes.ensures.by_index_2 j l).inside

pub returns-then-any_stopped : goal.returns-then-any_stopped
returns-then-any_stopped c =
    let a = c.args in
    let t = rows.all_through a.m a.cs a.entries _ a.allowance _ _ _ c.open_lanes.ensures.by_index_2 c.run.ensures.went c.run.ensures.by_index in
    record { given = tt; by_index_2 = λ h. sym (c.any_stopped.ensures.false_where_none (rows.lanes_through a.m a.n a.cs a.entries a.allowance _ refl c.requires.m_bound.2 _ t h)) ∙ c.if-any_stopped.true }

pub returns : goal.returns
returns c =
    let a = c.args in
    let t = rows.all_through a.m a.cs a.entries _ a.allowance _ _ _ c.open_lanes.ensures.by_index_2 c.run.ensures.went c.run.ensures.by_index in
    let none = c.any_stopped.ensures.none_where_false c.if-any_stopped.false in
    record { given = λ q l. let g = rows.rows_given a.m a.n a.cs a.entries a.allowance _ refl c.requires.m_bound.2 _ t none q l in (g.0, c.values_of.ensures q l ∙ g.1); by_index_2 = λ h. refl }

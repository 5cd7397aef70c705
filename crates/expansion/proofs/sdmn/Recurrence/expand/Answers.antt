-- `expansion::sdmn::Recurrence::expand` meets its contract. Assumes nothing.
use Rattle.expansion.specs.Sums.{blank}
use Rattle.expansion.specs.Inside.Recurrences.{defined}
use Rattle.expansion.proofs.Laws.{expanded_is}
use Rattle.expansion.proofs.sdmn.Recurrence.expand.Goals as goal

pub returns : goal.returns
unfolding blank
returns c = expanded_is (defined c.args.self) c.args.n c.args.nm _ _ _ _ _ _ _ _ _ c.filled-df.ensures c.descend-joint.ensures.df_after c.ascend-fs.ensures c.norm-s0.ensures c.scale.ensures c.scale-2.ensures

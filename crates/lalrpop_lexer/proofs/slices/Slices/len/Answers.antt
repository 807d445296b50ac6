use Rattle.std.proofs.Common.{◌∙◌}
use Rattle.lalrpop_lexer.proofs.SliceLemmas.{ends_count}
use Rattle.lalrpop_lexer.proofs.slices.Slices.len.Goals as goal

pub returns : goal.returns
returns g c =
    c.len.ensures ∙ c.self.inside.ends.ok.0 ∙ ends_count c.self.inside.items.items c.self.inside.ends.items c.args.self.now c.self.view_is

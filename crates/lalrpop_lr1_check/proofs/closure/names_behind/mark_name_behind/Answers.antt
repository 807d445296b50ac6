use Rattle.std.proofs.Common.{◌∙◌, ap, sym}
use Rattle.std.specs.Option.{option_copied}
use Rattle.lalrpop_lr1_check.proofs.NamesBehindLemmas.{listed_behind, listed_no_name}
use Rattle.lalrpop_lr1_check.proofs.closure.names_behind.mark_name_behind.Goals as goal

pub returns-in-None : goal.returns-in-None
returns-in-None c =
    listed_no_name c.args.table.now c.args.item.now c.args.names.now
    (sym c.name_behind_dot.ensures ∙ ap option_copied c.in-None.is)

pub returns-in_ok-mark_name-in-Some : goal.returns-in_ok-mark_name-in-Some
returns-in_ok-mark_name-in-Some c =
    listed_behind c.args.table.now c.args.item.now c.in-Some.name.now c.args.names.now c.mark_name.new.names
    (sym c.name_behind_dot.ensures ∙ ap option_copied c.in-Some.is) c.in_ok-mark_name-in-Some.ensures

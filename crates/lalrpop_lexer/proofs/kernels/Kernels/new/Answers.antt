use Rattle.std.proofs.Common.{◌≡◌, None, refl, rules}
use Rattle.std.specs.Prelude.{replicate}
use Rattle.lalrpop_lexer.proofs.GroupLemmas.{known_none}
use Rattle.lalrpop_lexer.proofs.KernelTableLemmas.{empty_table}
use Rattle.lalrpop_lexer.proofs.kernels.Kernels.new.Goals as goal

pub returns : goal.returns
returns c =
    let table = c.in_ok-vec.field-0.items in
    let none : table ≡ replicate c.args.count None = c.in_ok-vec.ensures.items_if_clones_equal (λ y h. search rules) in
    rw (empty_table 0 table (λ i. known_none table c.args.count i none), c.new.ensures.empty) refl

use Rattle.lalrpop_json_symbols.specs.Attributes.{attribute_at}
use Rattle.lalrpop_json_symbols.specs.Literals.{literal_at, terminal_at}
use Rattle.lalrpop_json_symbols.specs.Symbols.{symbol_at}
use Rattle.lalrpop_json_symbols.specs.Types.{type_at}
use Rattle.lalrpop_json_items.specs.Externs.{extern_at}
use Rattle.lalrpop_json_items.specs.Items.{item_at}
use Rattle.lalrpop_json_items.specs.Matches.{match_at}
use Rattle.lalrpop_json_items.specs.Rules.{rule_at}
use Rattle.lalrpop_json_grammar.specs.Wanted.{Component, Wanted}
use Rattle.lalrpop_json_grammar.proofs.AttributeFaultLemmas.{attribute_tells, literal_tells, terminal_tells}
use Rattle.lalrpop_json_grammar.proofs.ItemFaultLemmas.{item_tells, only_extern_tells, only_match_tells, only_rule_tells}
use Rattle.lalrpop_json_grammar.proofs.LawLemmas.{first_faults}
use Rattle.lalrpop_json_grammar.proofs.SymbolFaultLemmas.{symbol_tells}
use Rattle.lalrpop_json_grammar.proofs.TypeFaultLemmas.{type_tells}
use Rattle.lalrpop_json_grammar.proofs.fault_law.component_faults.Goals as goal

pub returns-clause-attribute : goal.returns-clause-attribute
returns-clause-attribute c = first_faults (Wanted.component Component.attribute) attribute_at attribute_tells

pub returns-clause-literal : goal.returns-clause-literal
returns-clause-literal c = first_faults (Wanted.component Component.literal) literal_at literal_tells

pub returns-clause-terminal : goal.returns-clause-terminal
returns-clause-terminal c = first_faults (Wanted.component Component.terminal) terminal_at terminal_tells

pub returns-clause-symbol : goal.returns-clause-symbol
returns-clause-symbol c = first_faults (Wanted.component Component.symbol) symbol_at symbol_tells

pub returns-clause-declared_type : goal.returns-clause-declared_type
returns-clause-declared_type c = first_faults (Wanted.component Component.type) type_at type_tells

pub returns-clause-rule : goal.returns-clause-rule
returns-clause-rule c = first_faults (Wanted.component Component.rule) rule_at only_rule_tells

pub returns-clause-match_block : goal.returns-clause-match_block
returns-clause-match_block c = first_faults (Wanted.component Component.match_block) match_at only_match_tells

pub returns-clause-extern_block : goal.returns-clause-extern_block
returns-clause-extern_block c = first_faults (Wanted.component Component.extern_block) extern_at only_extern_tells

pub returns-clause-item : goal.returns-clause-item
returns-clause-item c = first_faults (Wanted.component Component.item) item_at item_tells

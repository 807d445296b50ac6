-- Why a grammar isn't inlined.
use Rattle.std.specs.Prelude.{◌≡◌, true, List, [], ◌∷◌, Some, codes}
use Rattle.lalrpop_grammar_symbols.specs.Symbols.{Text}
use Rattle.lalrpop_grammar_language.specs.Among.{Among}
use Rattle.lalrpop_grammar_repr.specs.NormErrorTexts.{norm_error_text}
use Rattle.lalrpop_grammar_repr.specs.declared.norm_error.NormError.{NormError}
use Rattle.lalrpop_grammar_repr.specs.declared.norm_error.NormErrorKind.TheVariants as kinds
use Rattle.lalrpop_grammar_repr.specs.declared.production.NonterminalData.{NonterminalData}
use Rattle.lalrpop_lr1_inline.specs.InlinedNames.{NonterminalEntries, data_named, inlined_named_by, is_inlined_name, name_of_text}
use Rattle.lalrpop_lr1_inline.specs.declared.fault.InlineFault.{InlineFault}
use Rattle.lalrpop_lr1_inline.specs.declared.fault.InlineFault.TheVariants as faults

-- a chain of inlined nonterminals, in which each names the next one, from the first to the last
abbrev pub IsInlineChain : NonterminalEntries → Text → List Text → Text → Type 0
IsInlineChain g n [] m = Among (inlined_named_by g n) m
IsInlineChain g n (k ∷ between) m = Among (inlined_named_by g n) k × IsInlineChain g k between m

-- the nonterminal is inlined, and a chain returns to it
pub record IsInlinedIntoItself (g : NonterminalEntries) (n : Text) : Type 0 where
  pub is_inlined : is_inlined_name g n ≡ true
  pub between : List Text
  pub chain : IsInlineChain g n between n

-- the fault tells such a nonterminal, and where its rule is written
pub record IsInlineCycle (g : NonterminalEntries) (error : NormError) : Type 0 where
  pub name : Text
  pub data_found : NonterminalData
  pub has_data : data_named g name ≡ Some data_found
  pub error_is : error ≡ record { kind = kinds.CyclicInline (name_of_text name); span = data_found.span }
  pub returns : IsInlinedIntoItself g name

-- memory ran out, or a chain of inlined nonterminals returns to its first
abbrev pub IsOrderFault : NonterminalEntries → InlineFault → Type 0
IsOrderFault g (faults.Norm error) = IsInlineCycle g error
IsOrderFault g faults.Memory = Unit {0}

abbrev pub inline_fault_text : InlineFault → Text
inline_fault_text (faults.Norm error) = norm_error_text error.kind
inline_fault_text faults.Memory = codes "out of memory"

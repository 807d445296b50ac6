-- What is wrong with the literals that an expansion uses, over the written grammar.
use Rattle.std.specs.Prelude.{◌≡◌, List, Some, None}
use Rattle.lalrpop_grammar_symbols.specs.Symbols.{Text, TextSpan, Terminal}
use Rattle.lalrpop_grammar_symbols.specs.Views.{literal_view}
use Rattle.lalrpop_grammar.specs.WrittenGrammar.{InternEntry, Grammar}
use Rattle.lalrpop_grammar_language.specs.Enabled.{EnabledGrammar}
use Rattle.lalrpop_grammar_repr.specs.declared.norm_error.NormErrorKind.{NormErrorKind}
use Rattle.lalrpop_grammar_repr.specs.declared.norm_error.NormErrorKind.TheVariants as kinds
use Rattle.lalrpop_norm_theory.specs.Between.{without_disabled}
use Rattle.lalrpop_lexer_scan.specs.Literals.{first_span, uses_in_grammar}
use Rattle.lalrpop_norm_token_check.specs.Blocks.{block_groups, first_lacking}
use Rattle.lalrpop_norm_token_check.specs.Patterns.{first_refused, AreFirstTied}
use Rattle.lalrpop_norm_token_check.specs.Places.{FirstPlaces, place_of}
use Rattle.lalrpop_norm_chain.specs.UsedLiterals.{AreUsedLiterals, AreFullExpansionEntries}

-- where literals stand first in the written grammar without what is disabled
abbrev pub enabled_places : List Text → Grammar → FirstPlaces
enabled_places features w l = first_span (uses_in_grammar (without_disabled features w)) l

-- the first literal that the expansion uses and the match block lacks
pub record IsLackingInWritten (first : FirstPlaces) (g : EnabledGrammar) (w : Grammar) (l : Terminal) (p : TextSpan) : Type 0 where
  pub used : List Terminal
  pub are_used : AreUsedLiterals g used
  pub first_is : first_lacking (block_groups w.items) used ≡ Some l
  pub place : place_of first w l ≡ p

-- no literal is lacking, and this is the literal of the first entry that is refused
pub record IsRefusedInWritten (first : FirstPlaces) (g : EnabledGrammar) (w : Grammar) (l : Terminal) (p : TextSpan) : Type 0 where
  pub entries : List InternEntry
  pub are_full : AreFullExpansionEntries g (block_groups w.items) entries
  pub first_is : first_refused entries ≡ Some l
  pub place : place_of first w l ≡ p

-- no literal is lacking, no entry is refused, and these are the literals of the two that are told of the first tie
pub record AreTiedInWritten (first : FirstPlaces) (g : EnabledGrammar) (w : Grammar) (l m : Terminal) (p : TextSpan) : Type 0 where
  pub entries : List InternEntry
  pub are_full : AreFullExpansionEntries g (block_groups w.items) entries
  pub none_refused : first_refused entries ≡ None
  pub tied : AreFirstTied entries l m
  pub place : place_of first w l ≡ p

-- the fault of tokens stands, with this span; other kinds aren't looked for
abbrev pub TokenFaultInWritten : FirstPlaces → EnabledGrammar → Grammar → NormErrorKind → TextSpan → Type 0
TokenFaultInWritten first g w (kinds.NotInMatchBlock l) p = IsLackingInWritten first g w (literal_view l) p
TokenFaultInWritten first g w (kinds.PatternRefused l) p = IsRefusedInWritten first g w (literal_view l) p
TokenFaultInWritten first g w (kinds.SameText l m) p = AreTiedInWritten first g w (literal_view l) (literal_view m) p
TokenFaultInWritten first g w _ p = ⊥

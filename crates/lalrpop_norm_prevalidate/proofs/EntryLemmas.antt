-- What the program's entries list and where they stand, and lists that are moved one behind the other; for gathering entries.
use Rattle.std.proofs.Common.{◌≡◌, ◌∙◌, ap, sym, refl, List, ◌++◌, append_assoc}
use Rattle.std.specs.Prelude.{Some}
use Rattle.lalrpop_grammar_symbols.specs.Views.{span_view, literal_view}
use Rattle.lalrpop_grammar_symbols.specs.declared.span.Span.{Span}
use Rattle.lalrpop_grammar_symbols.specs.declared.terminal.TerminalLiteral.{TerminalLiteral}
use Rattle.lalrpop_grammar.specs.Items.{span_of}
use Rattle.lalrpop_grammar.specs.Views.{mapping_view, match_item_view}
use Rattle.lalrpop_grammar.specs.declared.match_token.MatchItem.{MatchItem}
use Rattle.lalrpop_grammar.specs.declared.match_token.MatchItem.TheVariants as items
use Rattle.lalrpop_grammar.specs.declared.match_token.MatchMapping.{MatchMapping}
use Rattle.lalrpop_grammar.specs.declared.match_token.MatchMapping.TheVariants as mappings
use Rattle.lalrpop_norm_prevalidate.specs.Entries.{literal_in_entry, entry_span}

-- a mapped entry lists its literal, whatever its matches become
pub literal_of_mapping : (l : TerminalLiteral) (m : MatchMapping) (p : Span)
    → literal_in_entry (mapping_view l m p) ≡ Some (literal_view l)
literal_of_mapping l (mappings.Terminal t) p = refl
literal_of_mapping l mappings.Skip p = refl

pub span_of_mapping : (l : TerminalLiteral) (m : MatchMapping) (p : Span) → entry_span (mapping_view l m p) ≡ span_view p
span_of_mapping l (mappings.Terminal t) p = refl
span_of_mapping l mappings.Skip p = refl

pub span_as_seen : (e : MatchItem) → span_view (span_of e) ≡ entry_span (match_item_view e)
span_as_seen (items.CatchAll p) = refl
span_as_seen (items.Unmapped l p) = refl
span_as_seen (items.Mapped l m p) = sym (span_of_mapping l m p)

-- what stands in front of the rest is put behind what is there
pub moved : {A : Type 0} (whole there left front rest after : List A) → left ≡ front ++ rest → whole ≡ there ++ left
    → after ≡ there ++ front → whole ≡ after ++ rest
moved whole there left front rest after split is new =
    is ∙ ap (λ l. there ++ l) split ∙ sym (append_assoc there front rest) ∙ ap (λ l. l ++ rest) (sym new)

-- Which grammars have a spelling, and that reading and writing are inverse: for the functions that write.
use Rattle.std.proofs.Common.{◌≡◌, ◌↔◌, Bool, List, ℕ, Result, Ok, Err, IfOk, IsTrue, ap, sym, ◌∙◌}
use Rattle.serde_json.specs.Data.{Data}
use Rattle.serde_json.specs.View.{view}
use Rattle.serde_json.specs.declared.value.Value.{Value}
use Rattle.lalrpop_grammar.specs.declared.grammar.Grammar.{Grammar}
use Rattle.lalrpop_json_values.specs.Prefix.{IsFreePrefix, longest_of, prefix_past}
use Rattle.lalrpop_json_values.specs.Strings.{strings}
use Rattle.lalrpop_json_values.proofs.PrefixRunLemmas.{free_prefix, only_prefix}
use Rattle.lalrpop_json_grammar.specs.Grammars.{grammar_at}
use Rattle.lalrpop_json_grammar.specs.Laws.{Spells}
use Rattle.lalrpop_json_grammar.specs.Spelling.{spelling}
use Rattle.lalrpop_json_grammar.proofs.GrammarLemmas.{grammar_takes, grammar_again}
use Rattle.lalrpop_json_grammar.specs.declared.writer.fault.WriteError.{WriteError}
use Rattle.lalrpop_json_grammar.specs.declared.writer.fault.WriteError.TheVariants as errors
use Rattle.lalrpop_json_grammar.specs.Written.{AreReadableParts, WritesGrammar, WritesAgain}

-- ---- prefixes

-- a prefix is free exactly where it is the one that is made for these texts
pub prefix_told : (r : Bool) (ts : List (List ℕ)) (p q : List ℕ) → q ≡ prefix_past (longest_of ts) → (IsTrue r ↔ (q ≡ p))
    → IsTrue r ↔ IsFreePrefix ts p
prefix_told r ts p q e told = (
  (λ is. let same : p ≡ prefix_past (longest_of ts) = sym (told.0 is) ∙ e in rw same (free_prefix ts)),
  (λ is. told.1 (e ∙ sym (only_prefix ts p is))),
)

-- ---- grammars

pub parts_of : (g : Grammar) (d : Data) → Spells d g → AreReadableParts g
parts_of g d spelled = (spelled.1.span, spelled.1.attributes, spelled.1.items)

pub prefix_of : (g : Grammar) (d e : Data) → e ≡ spelling g → Spells d g → IsFreePrefix (strings e) g.prefix
prefix_of g d e is spelled = rw is spelled.1.prefix

pub spelled_whole : (g : Grammar) (d : Data) → d ≡ spelling g → AreReadableParts g → IsFreePrefix (strings d) g.prefix
    → Spells d g
spelled_whole g d e parts prefix =
    (e, record { prefix = rw e at prefix; span = parts.0; attributes = parts.1; items = parts.2 })

pub ruleset grammars_told = (parts_of, prefix_of, spelled_whole)

-- ---- reading and writing

-- a value that was written is read as the grammar that it was written for
pub reads_back : (r : Result Value WriteError) (g : Grammar) → WritesGrammar r g → IfOk r (λ v. grammar_at (view v) ≡ Ok g)
reads_back (Ok v) g w = ap grammar_at w.0 ∙ grammar_again g w.1
reads_back (Err e) g w = tt

-- a grammar that a value is read as is written as that value
pub writes_again : (r : Result Value WriteError) (g : Grammar) → WritesGrammar r g → (d : Data) → grammar_at d ≡ Ok g
    → WritesAgain r d
writes_again (Ok v) g w d e = w.0 ∙ sym (grammar_takes d g e).0
writes_again (Err errors.NotWritten) g w d e = w d (grammar_takes d g e)
writes_again (Err errors.Memory) g w d e = tt

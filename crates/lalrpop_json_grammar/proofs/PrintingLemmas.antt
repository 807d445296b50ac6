-- Printed trees against the trees as definitions see them: for the functions that print.
use Rattle.std.proofs.Common.{ap₂, ◌≡◌, List, [], ◌∷◌, ◌++◌, refl, sym, ap, ◌∙◌, map, length, ℕ, ◌<◌, arith}
use Rattle.std.specs.Prelude.{codes}
use Rattle.lalrpop_grammar_symbols.specs.Symbols.{Text}
use Rattle.lalrpop_grammar_symbols.specs.Texts.{symbol_text}
use Rattle.lalrpop_grammar_symbols.specs.Parts.{texts_of_symbols}
use Rattle.lalrpop_grammar_symbols.specs.Views.{symbol_view, without_marks}
use Rattle.lalrpop_grammar_symbols.specs.declared.symbol.Symbol.{Symbol}
use Rattle.lalrpop_grammar_symbols.proofs.TextLemmas.{symbol_text-unmarked}
use Rattle.lalrpop_grammar_symbols.specs.declared.names.NonterminalString.{NonterminalString}
use Rattle.lalrpop_grammar.specs.declared.tree.WrittenTree.{WrittenTree}
use Rattle.lalrpop_grammar.specs.declared.tree.WrittenTree.TheVariants as variant
use Rattle.lalrpop_grammar.proofs.TreeLemmas.{seen-Rule}
use Rattle.lalrpop_grammar.specs.Views.{tree_view}
use Rattle.lalrpop_json_grammar.specs.PrintedRows.{opening_text}
use Rattle.lalrpop_json_grammar.specs.Printing.{arguments_text, row_text, head_text}

-- an argument's marks don't show
pub arguments-unmarked : (xs : List Symbol) → map symbol_text (map (λ s. without_marks (symbol_view s)) xs) ≡ texts_of_symbols xs
arguments-unmarked [] = refl
arguments-unmarked (x ∷ xs) = ap₂ ◌∷◌ (symbol_text-unmarked (symbol_view x)) (arguments-unmarked xs)

-- brackets stand where there are arguments
pub arguments_text-none : (xs : List Symbol) → length xs ≡ 0 → arguments_text (texts_of_symbols xs) ≡ []
arguments_text-none [] e = refl
arguments_text-none (x ∷ xs) e = absurd (omega arith)

pub arguments_text-some : (xs : List Symbol) → 0 < length xs
    → arguments_text (texts_of_symbols xs) ≡ row_text (codes "<") (codes ">") (texts_of_symbols xs)
arguments_text-some [] h = absurd (omega arith)
arguments_text-some (x ∷ xs) h = refl

-- the opening of a rule's node is its head and a bracket
pub opening-Rule : (t : WrittenTree) (n : NonterminalString) (args xs : List Symbol) (place : ℕ) (ts : List WrittenTree)
    → t ≡ variant.Rule n args place ts → xs ≡ args
    → opening_text (tree_view t) ≡ head_text n.0 (texts_of_symbols xs) place ++ codes "("
opening-Rule t n args xs place ts e same =
    ap opening_text (seen-Rule t n args place ts e)
    ∙ ap (λ (texts : List Text). head_text n.0 texts place ++ codes "(") (arguments-unmarked args ∙ ap texts_of_symbols (sym same))

-- A tree that is printed piece by piece: what is written of it first, and what of the rows of trees is still to come.
use Rattle.std.specs.Prelude.{ℕ, zero, suc, ◌≡◌, List, [], ◌∷◌, ◌++◌, Option, Some, None, map, flat_map, codes}
use Rattle.lalrpop_json_values.specs.JsonText.{json_text}
use Rattle.lalrpop_grammar_symbols.specs.Symbols.{Text}
use Rattle.lalrpop_grammar_symbols.specs.Texts.{symbol_text}
use Rattle.lalrpop_grammar.specs.Trees.{Tree, Trees}
use Rattle.lalrpop_grammar.specs.Walks.{children}
use Rattle.lalrpop_grammar.specs.WalkViews.{list_view}
use Rattle.lalrpop_json_grammar.specs.Printing.{head_text, tree_texts}
use Rattle.lalrpop_json_grammar.specs.declared.printing.Row.{Row}

-- the text of a tree before the trees right below it
abbrev pub opening_text : Tree → Text
opening_text (Tree.rule name args place ts) = head_text name (map symbol_text args) place ++ codes "("
opening_text (Tree.list ts) = codes "["
opening_text Tree.opt_none = codes "?()"
opening_text (Tree.opt_some t) = codes "?("
opening_text (Tree.group ts) = codes "("
opening_text (Tree.terminal token) = json_text token.text
opening_text Tree.look = codes "@"

-- the text of a tree after them
abbrev pub closing_text : Tree → Text
closing_text (Tree.rule name args place ts) = codes ")"
closing_text (Tree.list ts) = codes "]"
closing_text Tree.opt_none = []
closing_text (Tree.opt_some t) = codes ")"
closing_text (Tree.group ts) = codes ")"
closing_text (Tree.terminal token) = []
closing_text Tree.look = []

-- texts, with one text before the first and `, ` before each other
abbrev pub texts_from : Text → List Text → Text
texts_from before [] = []
texts_from before (t ∷ ts) = before ++ t ++ flat_map (λ u. codes ", " ++ u) ts

-- what of a row is still to come
abbrev pub row_to_come : Row → Text
row_to_come r = texts_from r.before.now (tree_texts (list_view r.trees)) ++ r.closing.now

-- what of the rows on a stack is still to come, the innermost row last on the stack and first in the text
abbrev pub rows_to_come : List Row → Text
rows_to_come [] = []
rows_to_come (r ∷ rest) = rows_to_come rest ++ row_to_come r

-- the tree that an option holds
abbrev pub held_in : Tree → Option Tree
held_in (Tree.opt_some t) = Some t
held_in (Tree.rule name args place ts) = None
held_in (Tree.list ts) = None
held_in Tree.opt_none = None
held_in (Tree.group ts) = None
held_in (Tree.terminal token) = None
held_in Tree.look = None

-- nothing stands below the tree, and nothing comes after its opening
abbrev pub IsLeaf : Tree → Type 0
IsLeaf t = (children t ≡ Trees.none) × (closing_text t ≡ [])

-- the openings of so many options around one another
abbrev pub options_text : ℕ → Text
options_text zero = []
options_text (suc n) = codes "?(" ++ options_text n

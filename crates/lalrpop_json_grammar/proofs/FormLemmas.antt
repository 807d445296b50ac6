-- Which form of tree a symbol has, and what the text of a tree begins with; for prints_tell_trees_apart.
use Rattle.std.proofs.Common.{◌≡◌, ℕ, List, [], ◌∷◌, true, false, refl, ap, sym, ◌∙◌, inl, inr, ◌⊎◌}
use Rattle.lalrpop_grammar_symbols.specs.Symbols.{Text, Op, Closed}
use Rattle.lalrpop_grammar.specs.Trees.{Token, Tree, Trees}
use Rattle.lalrpop_json_values.specs.Scalars.{is_name, begins_name}
use Rattle.lalrpop_grammar_language.specs.Enabled.{EnabledGrammar}
use Rattle.lalrpop_grammar_language.specs.Closing.{inner}
use Rattle.lalrpop_grammar_language.specs.Admitting.{Admits, FitsRepeat}
use Rattle.lalrpop_grammar_symbols.proofs.BoolLemmas.{and_both}

-- the forms, counted
abbrev pub tree_form : Tree → ℕ
tree_form (Tree.rule n args place ts) = 0
tree_form (Tree.list ts) = 1
tree_form Tree.opt_none = 2
tree_form (Tree.opt_some t) = 2
tree_form (Tree.group ts) = 3
tree_form (Tree.terminal token) = 4
tree_form Tree.look = 5

abbrev pub symbol_form : Closed → ℕ
symbol_form (Closed.call n args level) = 0
symbol_form (Closed.repeat Op.star x) = 1
symbol_form (Closed.repeat Op.plus x) = 1
symbol_form (Closed.repeat Op.question x) = 2
symbol_form (Closed.group xs) = 3
symbol_form (Closed.terminal t) = 4
symbol_form Closed.lookahead = 5
symbol_form Closed.lookbehind = 5
symbol_form (Closed.choose x) = 6
symbol_form (Closed.name m n x) = 6
symbol_form Closed.faulty = 6

many_form : (op : Op) (y : Closed) (ts : Trees) → FitsRepeat op ts → symbol_form (Closed.repeat op y) ≡ 1
many_form Op.star y ts h = refl
many_form Op.plus y ts h = refl
many_form Op.question y ts h = absurd h

-- a tree of the symbol has its form
pub form_of : (g : EnabledGrammar) (x : Closed) (t : Tree) (tokens : List Token) → Admits g x t tokens
    → symbol_form (inner x) ≡ tree_form t
form_of g x (Tree.rule n args place ts) tokens h = ap symbol_form h.symbol_is
form_of g x (Tree.list ts) tokens h = ap symbol_form h.2 ∙ many_form h.0 h.1 ts h.3
form_of g x Tree.opt_none tokens h = ap symbol_form h.1
form_of g x (Tree.opt_some t) tokens h = ap symbol_form h.1
form_of g x (Tree.group ts) tokens h = ap symbol_form h.1
form_of g x (Tree.terminal token) tokens h = ap symbol_form h.0
form_of g x Tree.look tokens h = go h.0
  where
    go : (inner x ≡ Closed.lookahead) ⊎ (inner x ≡ Closed.lookbehind) → symbol_form (inner x) ≡ 5
    go (inl e) = ap symbol_form e
    go (inr e) = ap symbol_form e

-- two trees that are admitted for one symbol have the same form
pub same_form : (g : EnabledGrammar) (x : Closed) (t u : Tree) (a b : List Token) → Admits g x t a → Admits g x u b
    → tree_form t ≡ tree_form u
same_form g x t u a b h k = sym (form_of g x t a h) ∙ form_of g x u b k

-- neither a closing bracket nor a closing parenthesis
pub record Begins (text : Text) : Type 0 where
  pub first : ℕ
  pub rest : Text
  pub text_is : text ≡ first ∷ rest
  pub no_bracket : first ≡ 93 → ⊥
  pub no_parenthesis : first ≡ 41 → ⊥

-- a name begins with neither a closing bracket nor a closing parenthesis
pub begins_name_of : (n : Text) → is_name n ≡ true → Begins n
begins_name_of [] h = absurd (cc)
begins_name_of (c ∷ cs) h =
    record { first = c; rest = cs; text_is = refl; no_bracket = no_mark 93 refl; no_parenthesis = no_mark 41 refl }
  where
    letter : begins_name c ≡ true
    letter = (and_both (begins_name c) _ h).0

    no_mark : (d : ℕ) → begins_name d ≡ false → c ≡ d → ⊥
    no_mark d f e = let both : true ≡ false = sym letter ∙ ap begins_name e ∙ f in cc

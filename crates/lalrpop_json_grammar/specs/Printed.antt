-- That printed trees tell trees apart: what is compared, of which grammars and trees, and what is said.
use Rattle.std.specs.Prelude.{◌≡◌, ◌↔◌, ◌<◌, ◌^◌, Bool, List, Option, IsTrue}
use Rattle.lalrpop_grammar_symbols.specs.Symbols.{Text}
use Rattle.lalrpop_grammar.specs.WrittenGrammar.{Grammar}
use Rattle.lalrpop_grammar.specs.Trees.{Token, Tree, Trees}
use Rattle.lalrpop_json_values.specs.Scalars.{is_name}
use Rattle.lalrpop_json_grammar.specs.Printing.{tree_text}
use Rattle.lalrpop_grammar_language.specs.Enabled.{EnabledGrammar, EnabledRule, IsRule, enabled_grammar}
use Rattle.lalrpop_grammar_language.specs.Admitting.{AdmitsFrom}

-- the token without its span
abbrev pub token_without_span : Token → Token
token_without_span token = record { terminal = token.terminal; text = token.text; span = (0, 0) }

-- the tree without the spans of its leaves: two trees are equal up to spans where these are the same
abbrev mutual
  pub tree_without_spans : Tree → Tree
  tree_without_spans (Tree.rule n args place ts) = Tree.rule n args place (trees_without_spans ts)
  tree_without_spans (Tree.list ts) = Tree.list (trees_without_spans ts)
  tree_without_spans Tree.opt_none = Tree.opt_none
  tree_without_spans (Tree.opt_some t) = Tree.opt_some (tree_without_spans t)
  tree_without_spans (Tree.group ts) = Tree.group (trees_without_spans ts)
  tree_without_spans (Tree.terminal token) = Tree.terminal (token_without_span token)
  tree_without_spans Tree.look = Tree.look

  pub trees_without_spans : Trees → Trees
  trees_without_spans Trees.none = Trees.none
  trees_without_spans (Trees.more t ts) = Trees.more (tree_without_spans t) (trees_without_spans ts)

-- each alternative's place is below 2^32, as in every tree of the program
abbrev mutual
  pub PlacesFit : Tree → Type 0
  PlacesFit (Tree.rule n args place ts) = (place < 2 ^ 32) × AllPlacesFit ts
  PlacesFit (Tree.list ts) = AllPlacesFit ts
  PlacesFit Tree.opt_none = Unit {0}
  PlacesFit (Tree.opt_some t) = PlacesFit t
  PlacesFit (Tree.group ts) = AllPlacesFit ts
  PlacesFit (Tree.terminal token) = Unit {0}
  PlacesFit Tree.look = Unit {0}

  pub AllPlacesFit : Trees → Type 0
  AllPlacesFit Trees.none = Unit {0}
  AllPlacesFit (Trees.more t ts) = PlacesFit t × AllPlacesFit ts

-- the rules have names, as in every grammar that has a spelling
abbrev pub AreNamed : EnabledGrammar → Type 0
AreNamed g = (n : Text) (r : EnabledRule) → IsRule g n r → IsTrue (is_name n)

-- Two trees that are admitted from one start print as the same bytes exactly where they are equal up to spans.
abbrev pub PrintsApart : (Text → Text → Option Bool) → List Text → Grammar → Type 0
PrintsApart finds features g =
    AreNamed (enabled_grammar finds features g) → (start : Text) (t u : Tree) (tokens others : List Token) → PlacesFit t → PlacesFit u
    → AdmitsFrom finds features g start t tokens → AdmitsFrom finds features g start u others
    → (tree_text t ≡ tree_text u) ↔ (tree_without_spans t ≡ tree_without_spans u)

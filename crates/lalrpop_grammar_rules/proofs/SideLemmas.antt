-- A text that names no side counts as one that gives the level to no one; for the reading of an alternative's side.
use Rattle.std.specs.Str.{bytes_eq}
use Rattle.std.proofs.Common.{◌≡◌, refl, ap, sym, ◌∙◌, cond, Bool, true, false}
use Rattle.std.specs.Prelude.{Option, Some, None, codes, option_and_then}
use Rattle.std.proofs.lemmas.Bool.{true≢false}
use Rattle.lalrpop_grammar_symbols.specs.Symbols.{Text}
use Rattle.lalrpop_grammar.specs.WrittenGrammar.{Attr}
use Rattle.lalrpop_grammar_language.specs.Levels.{Assoc, assoc_of, assoc_in, assoc_in_text, or_assoc, value_of}
use Rattle.lalrpop_grammar_language.proofs.PlaceLemmas.{same_text-eq}
use Rattle.lalrpop_grammar_rules.specs.Ranks.{side_named, side_in}

named_counts : (t : Text) → or_assoc (side_named t) Assoc.non_assoc ≡ assoc_of t
named_counts t =
    go (bytes_eq t (codes "left")) (bytes_eq t (codes "right")) (bytes_eq t (codes "none")) (bytes_eq t (codes "all")) refl refl
  where
    go : (l r n a : Bool) → bytes_eq t (codes "none") ≡ n → bytes_eq t (codes "all") ≡ a →
        or_assoc (cond l (Some Assoc.left) (cond r (Some Assoc.right) (cond n (Some Assoc.non_assoc)
        (cond a (Some Assoc.fully_assoc) None)))) Assoc.non_assoc
        ≡ cond l Assoc.left (cond r Assoc.right (cond a Assoc.fully_assoc Assoc.non_assoc))
    go true r n a e h = refl
    go false true n a e h = refl
    go false false true true e h =
        absurd (true≢false (sym h ∙ ap (λ u. bytes_eq u (codes "all")) (same_text-eq t (codes "none") e)))
    go false false true false e h = refl
    go false false false true e h = refl
    go false false false false e h = refl

in_text : (o : Option Text) → or_assoc (option_and_then side_named o) Assoc.non_assoc ≡ assoc_in_text o
in_text None = refl
in_text (Some t) = named_counts t

-- the side that counts for an attribute is the one that it says, else no one's
pub side_counts : (a : Attr) → or_assoc (side_in a) Assoc.non_assoc ≡ assoc_in a
side_counts a = in_text (value_of (codes "side") a)

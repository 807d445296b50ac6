-- The types of terminals with one more; for the types of terminals.
use Rattle.std.proofs.Common.{◌≡◌, ◌≢◌, ◌∙◌, ◌⊎◌, ◌<◌, ◌+◌, ℕ, ap, sym, refl, subst, inl, inr, List, []}
use Rattle.std.proofs.Common.{◌∷◌, ◌++◌, Bool, true, false, cond}
use Rattle.std.proofs.Common.{get_or, length, take}
use Rattle.std.specs.Bool.{Decides}
use Rattle.std.specs.Borrow.{Bor}
use Rattle.std.specs.Ordering.{is_eq}
use Rattle.std.specs.Prelude.{IsSomeAnd, Option, Some, None, is_none}
use Rattle.std.proofs.lemmas.List.{map-append, take_more}
use Rattle.lalrpop_grammar_symbols.specs.Symbols.{Terminal, Text}
use Rattle.lalrpop_grammar_symbols.specs.Views.{literal_view, terminal_view}
use Rattle.lalrpop_grammar_symbols.specs.contracts.terminal.TerminalLiteralOrd.TheImpl as literals
use Rattle.lalrpop_grammar_symbols.specs.contracts.terminal.TerminalStringOrd.TheImpl as terminals
use Rattle.lalrpop_grammar_symbols.specs.declared.terminal.TerminalLiteral.{TerminalLiteral}
use Rattle.lalrpop_grammar_symbols.specs.declared.terminal.TerminalLiteral.TheVariants as literal
use Rattle.lalrpop_grammar_symbols.specs.declared.terminal.TerminalString.{TerminalString}
use Rattle.lalrpop_grammar_symbols.specs.declared.terminal.TerminalString.TheVariants as terminal
use Rattle.lalrpop_grammar_language.specs.Among.{Among}
use Rattle.lalrpop_grammar_repr.specs.Maps.{at_terminal, with_terminal}
use Rattle.lalrpop_grammar.specs.declared.types.type_repr.TypeRepr.{TypeRepr}
use Rattle.lalrpop_norm_theory.specs.Types.{text_type}
use Rattle.lalrpop_grammar_language.proofs.StepLemmas.{among_right}
use Rattle.lalrpop_grammar_language.proofs.StepLemmas.{among_left}
use Rattle.lalrpop_grammar_language.proofs.OrderLemmas.{among_parts}
use Rattle.lalrpop_norm_tyinfer.specs.GroundViews.{type_repr_view}
use Rattle.lalrpop_norm_tyinfer.specs.TerminalTypes.{AreTerminalTypes, IsWithTerminal, found_terminals}
use Rattle.lalrpop_norm_tyinfer.proofs.TableLemmas.{lookup-insert_entry}
use Rattle.lalrpop_grammar_symbols.proofs.ComparedLemmas.{same_text}

same_literal : (a b : TerminalLiteral) → Decides (is_eq ((literals.ghosts).cmp a b)) (a ≡ b)
same_literal (literal.Quoted s) (literal.Quoted t) =
    (λ e. ap literal.Quoted ((same_text s t).0 e), λ e. (same_text s t).1 (let same : s ≡ t = cc in same))
same_literal (literal.Quoted s) (literal.Regex t) = (λ e. cc, λ e. cc)
same_literal (literal.Regex s) (literal.Quoted t) = (λ e. cc, λ e. cc)
same_literal (literal.Regex s) (literal.Regex t) =
    (λ e. ap literal.Regex ((same_text s t).0 e), λ e. (same_text s t).1 (let same : s ≡ t = cc in same))

same_terminal : (a b : TerminalString) → Decides (is_eq ((terminals.ghosts).cmp a b)) (a ≡ b)
same_terminal (terminal.Literal l) (terminal.Literal m) =
    (λ e. ap terminal.Literal ((same_literal l m).0 e), λ e. (same_literal l m).1 (let same : l ≡ m = cc in same))
same_terminal (terminal.Literal l) (terminal.Bare n) = (λ e. cc, λ e. cc)
same_terminal (terminal.Literal l) terminal.Error = (λ e. cc, λ e. cc)
same_terminal (terminal.Bare n) (terminal.Literal l) = (λ e. cc, λ e. cc)
same_terminal (terminal.Bare m) (terminal.Bare n) =
    (λ e. ap terminal.Bare ((same_text m n).0 e), λ e. (same_text m n).1 (let same : m ≡ n = cc in same))
same_terminal (terminal.Bare n) terminal.Error = (λ e. cc, λ e. cc)
same_terminal terminal.Error (terminal.Literal l) = (λ e. cc, λ e. cc)
same_terminal terminal.Error (terminal.Bare n) = (λ e. cc, λ e. cc)
same_terminal terminal.Error terminal.Error = (λ e. refl, λ e. refl)

literal_is : (a b : TerminalLiteral) → literal_view a ≡ literal_view b → a ≡ b
literal_is (literal.Quoted s) (literal.Quoted t) e = let same : s ≡ t = cc in ap literal.Quoted same
literal_is (literal.Quoted s) (literal.Regex t) e = absurd (let wrong : ⊥ = cc in wrong)
literal_is (literal.Regex s) (literal.Quoted t) e = absurd (let wrong : ⊥ = cc in wrong)
literal_is (literal.Regex s) (literal.Regex t) e = let same : s ≡ t = cc in ap literal.Regex same

no_bare : (a : TerminalLiteral) (n : Text) → literal_view a ≡ Terminal.bare n → ⊥
no_bare (literal.Quoted s) n e = cc
no_bare (literal.Regex s) n e = cc

no_error : (a : TerminalLiteral) → literal_view a ≡ Terminal.error → ⊥
no_error (literal.Quoted s) e = cc
no_error (literal.Regex s) e = cc

-- what is seen of terminals tells them apart
terminal_is : (a b : TerminalString) → terminal_view a ≡ terminal_view b → a ≡ b
terminal_is (terminal.Literal l) (terminal.Literal m) e = ap terminal.Literal (literal_is l m e)
terminal_is (terminal.Literal l) (terminal.Bare n) e = absurd (no_bare l n e)
terminal_is (terminal.Literal l) terminal.Error e = absurd (no_error l e)
terminal_is (terminal.Bare n) (terminal.Literal l) e = absurd (no_bare l n (sym e))
terminal_is (terminal.Bare m) (terminal.Bare n) e = let same : m ≡ n = cc in ap terminal.Bare same
terminal_is (terminal.Bare n) terminal.Error e = absurd (let wrong : ⊥ = cc in wrong)
terminal_is terminal.Error (terminal.Literal l) e = absurd (no_error l (sym e))
terminal_is terminal.Error (terminal.Bare n) e = absurd (let wrong : ⊥ = cc in wrong)
terminal_is terminal.Error terminal.Error e = refl

module _ (es : List (TerminalString × TypeRepr)) (t : TerminalString) where
  put : (u : TypeRepr) (s : TerminalString)
      → at_terminal s (with_terminal es t u) ≡ cond (is_eq ((terminals.ghosts).cmp s t)) (Some u) (at_terminal s es)
  put u s = lookup-insert_entry (terminals.ghosts).cmp same_terminal s t u es

  -- the table has a type for the terminal
  pub type_kept : is_none (at_terminal t es) ≡ false → IsWithTerminal t es es
  type_kept there = record { there = go (at_terminal t es) refl; others = λ s apart. refl }
    where
      go : (o : Option TypeRepr) → at_terminal t es ≡ o
          → IsSomeAnd o (λ u. (at_terminal t es ≡ Some u) ⊎ (type_repr_view u ≡ text_type))
      go None e = let is : is_none (at_terminal t es) ≡ true = ap is_none e in absurd (let wrong : ⊥ = cc in wrong)
      go (Some u) e = inl e

  -- the type is put in
  pub type_added : (u : TypeRepr) → type_repr_view u ≡ text_type → IsWithTerminal t es (with_terminal es t u)
  type_added u is = record {
    there =
        let here : at_terminal t (with_terminal es t u) ≡ Some u =
        put u t ∙ ap (λ (b : Bool). cond b (Some u) (at_terminal t es)) ((same_terminal t t).1 refl) in
        subst (λ o. IsSomeAnd o (λ v. (at_terminal t es ≡ Some v) ⊎ (type_repr_view v ≡ text_type))) (sym here) (inr is);
    others = λ s apart. others s apart (is_eq ((terminals.ghosts).cmp s t)) refl;
  }
    where
      others : (s : TerminalString) → s ≢ t → (b : Bool) → is_eq ((terminals.ghosts).cmp s t) ≡ b
          → at_terminal s (with_terminal es t u) ≡ at_terminal s es
      others s apart true e = absurd (apart ((same_terminal s t).0 e))
      others s apart false e = put u s ∙ ap (λ (b : Bool). cond b (Some u) (at_terminal s es)) e

module _ (ts : List Terminal) (old new : List (TerminalString × TypeRepr)) (t : TerminalString) (before : AreTerminalTypes ts old)
    (more : IsWithTerminal t old new) where
  old_type : (o : Option TypeRepr) (u : TypeRepr) → o ≡ Some u → IsSomeAnd o (λ v. type_repr_view v ≡ text_type)
      → type_repr_view u ≡ text_type
  old_type None u e h = absurd h
  old_type (Some v) u e h = let same : v ≡ u = cc in ap type_repr_view (sym same) ∙ h

  own : (o : Option TypeRepr) → IsSomeAnd o (λ u. (at_terminal t old ≡ Some u) ⊎ (type_repr_view u ≡ text_type))
      → IsSomeAnd o (λ u. type_repr_view u ≡ text_type)
  own None h = h
  own (Some u) (inl e) = old_type (at_terminal t old) u e (before.typed t (before.only t u e))
  own (Some u) (inr e) = e

  typed_one : (s : TerminalString) → Among (ts ++ terminal_view t ∷ []) (terminal_view s) → (b : Bool)
      → is_eq ((terminals.ghosts).cmp s t) ≡ b → IsSomeAnd (at_terminal s new) (λ u. type_repr_view u ≡ text_type)
  typed_one s i true e =
      subst (λ x. IsSomeAnd (at_terminal x new) (λ u. type_repr_view u ≡ text_type)) (sym ((same_terminal s t).0 e))
      (own (at_terminal t new) more.there)
  typed_one s i false e =
      subst (λ o. IsSomeAnd o (λ u. type_repr_view u ≡ text_type)) (sym (more.others s apart))
      (go (among_parts ts (terminal_view t ∷ []) (terminal_view s) i))
    where
      apart : s ≢ t
      apart same = let equal : is_eq ((terminals.ghosts).cmp s t) ≡ true = (same_terminal s t).1 same in cc

      go : Among ts (terminal_view s) ⊎ Among (terminal_view t ∷ []) (terminal_view s)
          → IsSomeAnd (at_terminal s old) (λ u. type_repr_view u ≡ text_type)
      go (inl j) = before.typed s j
      go (inr (inl same)) = absurd (apart (sym (terminal_is t s same)))
      go (inr (inr j)) = absurd j

  only_one : (s : TerminalString) (u : TypeRepr) → at_terminal s new ≡ Some u → (b : Bool)
      → is_eq ((terminals.ghosts).cmp s t) ≡ b → Among (ts ++ terminal_view t ∷ []) (terminal_view s)
  only_one s u f true e =
      among_right ts (terminal_view t ∷ []) (terminal_view s) (inl (ap terminal_view (sym ((same_terminal s t).0 e))))
  only_one s u f false e =
      among_left ts (terminal_view t ∷ []) (terminal_view s) (before.only s u (sym (more.others s apart) ∙ f))
    where
      apart : s ≢ t
      apart same = let equal : is_eq ((terminals.ghosts).cmp s t) ≡ true = (same_terminal s t).1 same in cc

  -- one terminal more has its type
  pub one_more_typed : AreTerminalTypes (ts ++ terminal_view t ∷ []) new
  one_more_typed = record {
    typed = λ s i. typed_one s i (is_eq ((terminals.ghosts).cmp s t)) refl;
    only = λ s u f. only_one s u f (is_eq ((terminals.ghosts).cmp s t)) refl;
  }

pub none_typed : AreTerminalTypes [] []
none_typed = record { typed = λ s i. absurd i; only = λ s u f. absurd (let wrong : ⊥ = cc in wrong) }

-- one more of those that were found
pub found_more : (xs : List (Bor TerminalString)) (i : ℕ) (x : Bor TerminalString) → i < length xs → x ≡ get_or xs i x
    → found_terminals (take (i + 1) xs) ≡ found_terminals (take i xs) ++ terminal_view x.now ∷ []
found_more xs i x h e =
    ap found_terminals (take_more xs i x h ∙ ap (λ y. take i xs ++ y ∷ []) (sym e))
    ∙ map-append (λ (t : Bor TerminalString). terminal_view t.now) (take i xs) (x ∷ [])

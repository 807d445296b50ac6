-- Rules under their names, one after another; for the map of written rules.
use Rattle.std.proofs.Common.{◌≡◌, Bool, true, false, cond, List, [], ◌∷◌, Option, Some, None, refl, ap, sym, ◌∙◌}
use Rattle.std.proofs.lemmas.Slice.Eq.{bytes_eq-Decides}
use Rattle.std.specs.HashMap.{get_by}
use Rattle.std.specs.Map.{update}
use Rattle.std.specs.Borrow.{Bor}
use Rattle.std.specs.Prelude.{is_some, option_map}
use Rattle.std.specs.Str.{bytes_eq}
use Rattle.lalrpop_grammar_symbols.specs.Symbols.{Text}
use Rattle.lalrpop_grammar.specs.WrittenGrammar.{Rule}
use Rattle.lalrpop_grammar.specs.Views.{nonterminal_view}
use Rattle.lalrpop_grammar.specs.declared.nonterminal.NonterminalData.{NonterminalData}
use Rattle.lalrpop_norm_macros.specs.WrittenRules.{WrittenByName, first_written, or_rule, written_at}

-- an option of a rule, with nothing to fall back on, is itself
pub or_nothing : (o : Option Rule) → or_rule o None ≡ o
or_nothing None = refl
or_nothing (Some r) = refl

-- a name that is there keeps its rule
pub kept_written : (m : WrittenByName) (r : Rule) → is_some (get_by (λ k. bytes_eq r.name k.now) m) ≡ true → (n : Text)
    → written_at m n ≡ or_rule (written_at m n) (first_written n (r ∷ []))
kept_written m r known n = go (bytes_eq r.name n) refl
  where
    there : (o : Option (Bor NonterminalData)) → is_some o ≡ true → (p : Rule) → option_map (λ d. nonterminal_view d.now) o
        ≡ or_rule (option_map (λ d. nonterminal_view d.now) o) (Some p)
    there None e p = absurd (cc)
    there (Some d) e p = refl

    go : (b : Bool) → bytes_eq r.name n ≡ b → written_at m n ≡ or_rule (written_at m n) (cond b (Some r) None)
    go true e =
        let same : r.name ≡ n = (bytes_eq-Decides r.name n).0 e in
        there (get_by (λ k. bytes_eq n k.now) m) (ap (λ t. is_some (get_by (λ k. bytes_eq t k.now) m)) (sym same) ∙ known) r
    go false e = sym (or_nothing (written_at m n))

-- one that isn't gets this one
pub one_written : (before after : WrittenByName) (d : Bor NonterminalData)
    → is_some (get_by (λ k. bytes_eq (nonterminal_view d.now).name k.now) before) ≡ false
    → ((n : Text) → get_by (λ k. bytes_eq n k.now) after
    ≡ update bytes_eq (λ t. get_by (λ k. bytes_eq t k.now) before) (nonterminal_view d.now).name (Some d) n)
    → (n : Text) → written_at after n ≡ or_rule (written_at before n) (first_written n (nonterminal_view d.now ∷ []))
one_written before after d unknown new n =
    ap (option_map (λ e. nonterminal_view e.now)) (new n) ∙ go (bytes_eq (nonterminal_view d.now).name n) refl
  where
    not_there : (o : Option (Bor NonterminalData)) → is_some o ≡ false → (p : Rule)
        → Some p ≡ or_rule (option_map (λ e. nonterminal_view e.now) o) (Some p)
    not_there None e p = refl
    not_there (Some x) e p = absurd (cc)

    go : (b : Bool) → bytes_eq (nonterminal_view d.now).name n ≡ b
        → option_map (λ e. nonterminal_view e.now) (cond b (Some d) (get_by (λ k. bytes_eq n k.now) before))
        ≡ or_rule (written_at before n) (cond b (Some (nonterminal_view d.now)) None)
    go true e =
        let same : (nonterminal_view d.now).name ≡ n = (bytes_eq-Decides (nonterminal_view d.now).name n).0 e in
        not_there (get_by (λ k. bytes_eq n k.now) before)
        (ap (λ t. is_some (get_by (λ k. bytes_eq t k.now) before)) (sym same) ∙ unknown) (nonterminal_view d.now)
    go false e = sym (or_nothing (written_at before n))

-- one rule more, with those to come
pub written_on : (old new : Option Rule) (n : Text) (r : Rule) (left rest : List Rule) → left ≡ r ∷ rest
    → new ≡ or_rule old (first_written n (r ∷ [])) → or_rule new (first_written n rest) ≡ or_rule old (first_written n left)
written_on old new n r left rest is e =
    ap (λ o. or_rule o (first_written n rest)) e ∙ go old (bytes_eq r.name n) ∙ ap (λ l. or_rule old (first_written n l)) (sym is)
  where
    go : (o : Option Rule) (b : Bool) → or_rule (or_rule o (cond b (Some r) None)) (first_written n rest)
        ≡ or_rule o (cond b (Some r) (first_written n rest))
    go None true = refl
    go None false = refl
    go (Some q) b = refl

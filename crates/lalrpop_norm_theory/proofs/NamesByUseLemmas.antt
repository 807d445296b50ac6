-- Names that are given in order of first use are one naming; for the laws of use.
use Rattle.std.proofs.Common.{◌≡◌, List, [], ◌∷◌, ◌++◌, refl, ap, sym, ◌∙◌, subst, inl, inr, ◌⊎◌, map}
use Rattle.lalrpop_grammar_language.proofs.StepLemmas.{among_right}
use Rattle.lalrpop_norm_theory.specs.FirstUse.{FollowByUse}
use Rattle.lalrpop_norm_theory.proofs.FirstUseLemmas.{user_of}
use Rattle.lalrpop_grammar_symbols.specs.Symbols.{Text, Closed, Closeds}
use Rattle.lalrpop_grammar_language.specs.Among.{Among}
use Rattle.lalrpop_grammar_language.specs.Enabled.{EnabledGrammar, EnabledRule, IsRule}
use Rattle.lalrpop_grammar_language.specs.Levels.{loosest}
use Rattle.lalrpop_grammar_language.specs.Expansion.{Nonterminal, InExpansion}
use Rattle.lalrpop_grammar_language.proofs.AmongLemmas.{among_flat_map, flat_map_among}
use Rattle.lalrpop_grammar_language.proofs.OrderLemmas.{among_parts}
use Rattle.lalrpop_norm_theory.specs.Keys.{IsNaming}
use Rattle.lalrpop_norm_theory.specs.UsedKeys.{KeyUses, rule_at_levels, tighter_at, unless_macro, written_keys}
use Rattle.lalrpop_norm_theory.specs.NamesByUse.{AreNumberedByUse, IsNamingByUse, texts_of_rules, tighter_keys}
use Rattle.lalrpop_norm_theory.proofs.UsedKeyLemmas.{keys_all, keys_one_order, used_in}

-- two ways to number a list are the same
pub numbered_one : (text_of m n : Closed → Text) (taken : List Text) (xs : List Closed) → AreNumberedByUse text_of m taken xs
    → AreNumberedByUse text_of n taken xs → (x : Closed) → Among xs x → m x ≡ n x
numbered_one text_of m n taken [] v w x i = absurd i
numbered_one text_of m n taken (y ∷ ys) v w x (inl e) = subst (λ z. m z ≡ n z) e (v.0 ∙ sym w.0)
numbered_one text_of m n taken (y ∷ ys) v w x (inr i) = numbered_one text_of m n (text_of y ∷ taken) ys v.1 w.1 x i

-- a written rule is at its loosest level or at a tighter one
pub record IsWrittenRule (g : EnabledGrammar) (x : Closed) : Type 0 where
  pub rule : EnabledRule
  pub among : Among g.rules rule
  pub no_macro : rule.parameters ≡ []
  pub key_is : x ≡ Closed.call rule.name Closeds.none (loosest rule)

rule_or_tighter : (g : EnabledGrammar) (x : Closed) (r : EnabledRule) → Among g.rules r → (ps : List Text) → r.parameters ≡ ps
    → Among (unless_macro ps (rule_at_levels r)) x → IsWrittenRule g x ⊎ Among (tighter_keys g) x
rule_or_tighter g x r i (p ∷ ps) e h = absurd h
rule_or_tighter g x r i [] e (inl f) = inl (record { rule = r; among = i; no_macro = e; key_is = sym f })
rule_or_tighter g x r i [] e (inr h) =
    inr (flat_map_among (λ q. unless_macro q.parameters (tighter_at q)) g.rules r x i
    (subst (λ l. Among (unless_macro l (tighter_at r)) x) (sym e) h))

pub written_or_tighter : (g : EnabledGrammar) (x : Closed) → Among (written_keys g) x → IsWrittenRule g x ⊎ Among (tighter_keys g) x
written_or_tighter g x h =
    let w = among_flat_map (λ q. unless_macro q.parameters (rule_at_levels q)) g.rules x h in
    rule_or_tighter g x w.0 w.1 w.0.parameters refl w.2

-- the names of keys, as they are numbered
abbrev pub name_of_key : (Nonterminal → Text) → Closed → Text
name_of_key name_of x = name_of (Nonterminal.closed x)

-- where no two rules share a name, two namings by use name the expansion alike
pub names_one : (text_of : Closed → Text) (prefix : Text) (g : EnabledGrammar) (m n : Nonterminal → Text)
    → ((r : EnabledRule) → Among g.rules r → IsRule g r.name r) → IsNamingByUse text_of prefix g m
    → IsNamingByUse text_of prefix g n → (x : Nonterminal) → InExpansion g x → m x ≡ n x
names_one text_of prefix g m n single v w (Nonterminal.start s) i = v.naming.starts s i ∙ sym (w.naming.starts s i)
names_one text_of prefix g m n single v w (Nonterminal.closed x) i =
    go (among_parts (written_keys g) v.others x (keys_all g v.others v.in_order x i))
  where
    same : v.others ≡ w.others
    same = keys_one_order g v.others w.others v.in_order w.in_order

    written : IsWrittenRule g x ⊎ Among (tighter_keys g) x → m (Nonterminal.closed x) ≡ n (Nonterminal.closed x)
    written (inl u) =
        let r : IsRule g u.rule.name u.rule = single u.rule u.among in
        ap (name_of_key m) u.key_is ∙ v.naming.rules u.rule r u.no_macro ∙ sym (w.naming.rules u.rule r u.no_macro)
        ∙ sym (ap (name_of_key n) u.key_is)
    written (inr k) =
        numbered_one text_of (name_of_key m) (name_of_key n) (map (λ r. r.name) g.rules) (tighter_keys g) v.levels w.levels x k

    go : Among (written_keys g) x ⊎ Among v.others x → m (Nonterminal.closed x) ≡ n (Nonterminal.closed x)
    go (inl j) = written (written_or_tighter g x j)
    go (inr j) =
        numbered_one text_of (name_of_key m) (name_of_key n) (texts_of_rules text_of g) v.others v.numbered
        (subst (AreNumberedByUse text_of (name_of_key n) (texts_of_rules text_of g)) (sym same) w.numbered) x j

-- names that agree

-- what follows by use is in the expansion, where what it follows is
followers_in : (g : EnabledGrammar) (known xs : List Closed) → ((x : Closed) → Among known x → InExpansion g (Nonterminal.closed x))
    → FollowByUse (KeyUses g) known xs → (x : Closed) → Among xs x → InExpansion g (Nonterminal.closed x)
followers_in g known [] there f x i = absurd i
followers_in g known (y ∷ xs) there ((us, u, n), f) x i =
    go i (λ k j. followers_in g (known ++ y ∷ []) xs k f x j)
  where
    here : InExpansion g (Nonterminal.closed y)
    here =
        let among : Among us y = subst (λ l. Among l y) (sym n.parts) (among_right n.before (y ∷ n.after) y (inl refl)) in
        let v = user_of (KeyUses g) known us y u among in
        used_in g v.user v.list (there v.user v.among) v.uses_list y v.used

    either : (z : Closed) → Among known z ⊎ Among (y ∷ []) z → InExpansion g (Nonterminal.closed z)
    either z (inl j) = there z j
    either z (inr (inl e)) = subst (λ a. InExpansion g (Nonterminal.closed a)) e here
    either z (inr (inr j)) = absurd j

    go : Among (y ∷ xs) x → (((z : Closed) → Among (known ++ y ∷ []) z → InExpansion g (Nonterminal.closed z)) → Among xs x
        → InExpansion g (Nonterminal.closed x)) → InExpansion g (Nonterminal.closed x)
    go (inl e) later = subst (λ a. InExpansion g (Nonterminal.closed a)) e here
    go (inr j) later = later (λ z k. either z (among_parts known (y ∷ []) z k)) j

-- a tighter level is a written rule's
tighter_written : (g : EnabledGrammar) (x : Closed) → Among (tighter_keys g) x → Among (written_keys g) x
tighter_written g x i =
    let w = among_flat_map (λ q. unless_macro q.parameters (tighter_at q)) g.rules x i in
    flat_map_among (λ q. unless_macro q.parameters (rule_at_levels q)) g.rules w.0 x w.1 (go w.0 w.0.parameters w.2)
  where
    go : (r : EnabledRule) (ps : List Text) → Among (unless_macro ps (tighter_at r)) x → Among (unless_macro ps (rule_at_levels r)) x
    go r [] j = inr j
    go r (p ∷ ps) j = j

numbered_alike : (text_of m n : Closed → Text) (taken : List Text) (xs : List Closed) → ((x : Closed) → Among xs x → m x ≡ n x)
    → AreNumberedByUse text_of m taken xs → AreNumberedByUse text_of n taken xs
numbered_alike text_of m n taken [] same v = tt
numbered_alike text_of m n taken (x ∷ xs) same v =
    (sym (same x (inl refl)) ∙ v.0, numbered_alike text_of m n (text_of x ∷ taken) xs (λ y i. same y (inr i)) v.1)

-- a naming that agrees on the expansion with one that is given by use is so, too
pub naming_alike : (text_of : Closed → Text) (prefix : Text) (g : EnabledGrammar) (m n : Nonterminal → Text)
    → ((x : Nonterminal) → InExpansion g x → m x ≡ n x)
    → ((x : Closed) → Among (written_keys g) x → InExpansion g (Nonterminal.closed x)) → IsNamingByUse text_of prefix g m
    → IsNaming text_of prefix g n → IsNamingByUse text_of prefix g n
naming_alike text_of prefix g m n same written v naming = record {
  naming = naming;
  levels = numbered_alike text_of (name_of_key m) (name_of_key n) (map (λ r. r.name) g.rules) (tighter_keys g)
      (λ x i. same (Nonterminal.closed x) (written x (tighter_written g x i))) v.levels;
  others = v.others;
  in_order = v.in_order;
  numbered = numbered_alike text_of (name_of_key m) (name_of_key n) (texts_of_rules text_of g) v.others
      (λ x i. same (Nonterminal.closed x) (followers_in g (written_keys g) v.others written v.in_order.follow x i)) v.numbered;
}

-- Names of rules and parameters have no tilde once what is disabled is gone and names are resolved; and each alternative tells a
-- place of its own rule still. For the laws of what passes leave.
use Rattle.std.proofs.Common.{◌≡◌, ℕ, List, [], ◌∷◌, refl, ap, sym, ◌∙◌, subst, cond, Bool, true, false}
use Rattle.std.specs.Prelude.{◌==◌, ◌||◌}
use Rattle.std.specs.Char.{is_ascii_alphabetic, is_ascii_alphanumeric}
use Rattle.std.specs.List.{list_all}
use Rattle.std.proofs.lemmas.Bool.{true≢false, eqb-true, and_parts}
use Rattle.lalrpop_grammar_symbols.specs.Symbols.{Text}
use Rattle.lalrpop_grammar.specs.WrittenGrammar.{Alternative, Origin, Rule, Grammar, rules_of}
use Rattle.lalrpop_grammar_language.specs.Among.{Among}
use Rattle.lalrpop_grammar_language.proofs.PlaceLemmas.{among_map}
use Rattle.lalrpop_norm_theory.specs.Between.{without_disabled}
use Rattle.lalrpop_norm_theory.specs.Keys.{before_tilde}
use Rattle.lalrpop_norm_theory.specs.Premises.{is_identifier, IsReadGrammar}
use Rattle.lalrpop_norm_theory.specs.Resolving.{defined_names, resolved_alternative, resolved_grammar}
use Rattle.lalrpop_norm_theory.specs.LevelNames.{HasNoTildes}
use Rattle.lalrpop_norm_theory.specs.LevelLaws.{TellsOwnRules}
use Rattle.lalrpop_norm_theory.proofs.ToldPlaceLemmas.{read_tells}
use Rattle.lalrpop_norm_chain.proofs.SourceLemmas.{read_rule, left_source, resolved_source}

-- texts

not_tilde : (p : ℕ → Bool) → p 126 ≡ false → (c : ℕ) → p c ≡ true → (c == 126) ≡ false
not_tilde p none c h = go (c == 126) refl
  where
    go : (b : Bool) → (c == 126) ≡ b → b ≡ false
    go false e = refl
    go true e = absurd (true≢false (sym h ∙ ap p (eqb-true c 126 e) ∙ none))

abbrev in_name : ℕ → Bool
in_name d = is_ascii_alphanumeric d || d == 95

abbrev begins_name : ℕ → Bool
begins_name c = is_ascii_alphabetic c || c == 95

one_more : (c : ℕ) (cs : Text) → (c == 126) ≡ false → before_tilde cs ≡ cs → before_tilde (c ∷ cs) ≡ c ∷ cs
one_more c cs e h = ap (λ b. cond b [] (c ∷ before_tilde cs)) e ∙ ap (λ l. c ∷ l) h

rest_plain : (cs : Text) → list_all in_name cs ≡ true → before_tilde cs ≡ cs
rest_plain [] h = refl
rest_plain (c ∷ cs) h =
    let parts = and_parts (in_name c) (list_all in_name cs) h in
    one_more c cs (not_tilde in_name refl c parts.0) (rest_plain cs parts.1)

-- an identifier has no tilde
pub identifier_plain : (n : Text) → is_identifier n ≡ true → before_tilde n ≡ n
identifier_plain [] h = refl
identifier_plain (c ∷ cs) h =
    let parts = and_parts (begins_name c) (list_all in_name cs) h in
    one_more c cs (not_tilde begins_name refl c parts.0) (rest_plain cs parts.1)

-- a rule whose names are resolved is a read rule, but for what its alternatives and its type say
pub record FromRead (w : Grammar) (r : Rule) : Type 0 where
  pub rule : Rule
  pub among : Among (rules_of w.items) rule
  pub name_is : rule.name ≡ r.name
  pub parameters_are : rule.parameters ≡ r.parameters

-- a rule of the grammar with resolved names has its name and its parameters from a read rule
pub from_read : (features : List Text) (w : Grammar) (r : Rule) →
    Among (rules_of (resolved_grammar (without_disabled features w)).items) r → FromRead w r
from_read features w r i =
    let q = resolved_source (without_disabled features w) r i in
    let p = left_source features w.items q.0 q.1 in
    record {
      rule = p.0;
      among = p.1;
      name_is = ap (λ (e : Rule). e.name) p.3 ∙ ap (λ (e : Rule). e.name) q.2;
      parameters_are = ap (λ (e : Rule). e.parameters) p.3 ∙ ap (λ (e : Rule). e.parameters) q.2;
    }

-- no rule's name has a tilde
pub names_plain : (features : List Text) (w : Grammar) → IsReadGrammar w →
    HasNoTildes (resolved_grammar (without_disabled features w))
names_plain features w read r i =
    let u = from_read features w r i in
    subst (λ t. before_tilde t ≡ t) u.name_is (identifier_plain u.rule.name (read_rule w read u.rule u.among).name)

-- nor has a parameter's
pub parameters_plain : (features : List Text) (w : Grammar) → IsReadGrammar w → (r : Rule) (n : Text) →
    Among (rules_of (resolved_grammar (without_disabled features w)).items) r → Among r.parameters n → before_tilde n ≡ n
parameters_plain features w read r n i j =
    let u = from_read features w r i in
    identifier_plain n
    ((read_rule w read u.rule u.among).parameters n (subst (λ (l : List Text). Among l n) (sym u.parameters_are) j))

-- resolving names leaves what alternatives tell
pub resolved_tells : (g : Grammar) → TellsOwnRules g → TellsOwnRules (resolved_grammar g)
resolved_tells g tells r a i j =
    let q = resolved_source g r i in
    let b = among_map (resolved_alternative (defined_names g) q.0.parameters) q.0.alternatives a
    (subst (λ (e : Rule). Among e.alternatives a) (sym q.2) j) in
    let told = tells q.0 b.0 q.1 b.1 in (
      told.0,
      ap (λ (e : Alternative). e.origin) (sym b.2) ∙ told.1 ∙ ap (λ (e : Rule). Origin.alternative e.name [] told.0) q.2,
    )

-- each alternative tells a place of its own rule
pub read_tells_resolved : (features : List Text) (w : Grammar) → IsReadGrammar w →
    TellsOwnRules (resolved_grammar (without_disabled features w))
read_tells_resolved features w read =
    resolved_tells (without_disabled features w) (read_tells features w read)

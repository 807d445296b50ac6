-- JSON that was read, beside the data that it makes: for the readers of a value, of lists and of objects.
use Rattle.std.proofs.Common.{◌≡◌, List, Option, Some, None, option_map, refl, ap, ◌∙◌}
use Rattle.json.specs.Token.{Token}
use Rattle.json.specs.Json.{parse_map}
use Rattle.serde_json.specs.Read.{converted}

inside : {A : Type 0} (a b : A) → Some a ≡ Some b → a ≡ b
inside a b e = cc

data_read : {A B : Type 0} (f : A → Option B) (a : A) (b : B) (ts rest : List Token) (made : Option B) → f a ≡ made
    → option_map {U = B × List Token} (λ x. (x, ts)) made ≡ Some (b, rest) → (ts ≡ rest) × (f a ≡ Some b)
data_read f a b ts rest None is e = absurd (cc)
data_read f a b ts rest (Some x) is e =
    let same = inside (x, ts) (b, rest) e in
    (ap (λ q. q.1) same, is ∙ ap (λ q. Some q.0) same)

-- what was read as data was read as JSON
pub json_read : {A B : Type 0} (f : A → Option B) (o : Option (A × List Token)) (b : B) (rest : List Token)
    → converted f o ≡ Some (b, rest) → (a : A) × (o ≡ Some (a, rest)) × (f a ≡ Some b)
json_read f None b rest e = absurd (cc)
json_read f (Some p) b rest e =
    let both = data_read f p.0 b p.1 rest (f p.0) refl e in
    (p.0, ap (λ ts. Some (p.0, ts)) both.0, both.1)

no_data : {B : Type 0} (ts : List Token) (made : Option B) → option_map {U = B × List Token} (λ x. (x, ts)) made ≡ None
    → made ≡ None
no_data ts None e = refl
no_data ts (Some x) e = absurd (cc)

-- JSON that was read and makes no data
pub data_refused : {A B : Type 0} (f : A → Option B) (a : A) (ts : List Token) → converted f (Some (a, ts)) ≡ None → f a ≡ None
data_refused f a ts e = no_data ts (f a) e

-- one construct more around JSON, beside the data that it makes
pub converted_around : {A C D : Type 0} (f : A → C) (g : C → Option D) (h : A → Option D) → ((a : A) → g (f a) ≡ h a)
    → (o : Option (A × List Token)) → converted g (parse_map f o) ≡ converted h o
converted_around f g h same None = refl
converted_around f g h same (Some p) = rw (same p.0)

mapped : {B D : Type 0} (k : B → D) (ts : List Token) (made : Option B) →
    option_map {U = D × List Token} (λ x. (x, ts)) (option_map k made) ≡ parse_map k (option_map (λ x. (x, ts)) made)
mapped k ts None = refl
mapped k ts (Some x) = refl

pub converted_map : {A B D : Type 0} (h : A → Option B) (k : B → D) (o : Option (A × List Token))
    → converted (λ a. option_map k (h a)) o ≡ parse_map k (converted h o)
converted_map h k None = refl
converted_map h k (Some p) = mapped k p.1 (h p.0)

-- a construct that makes no data, whatever is in it
pub none_converted : {A B C : Type 0} (f : A → C) (g : C → Option B) → ((a : A) → g (f a) ≡ None)
    → (o : Option (A × List Token)) → converted g (parse_map f o) ≡ None
none_converted f g none None = refl
none_converted f g none (Some p) = rw (none p.0)

-- What clap finds among the options of a command, where all are made alike.
use Rattle.std.proofs.Common.{◌≡◌, ◌≢◌, ◌==◌, ℕ, zero, suc, Bool, true, false, not, ◌&&◌, ◌||◌, List, [], ◌∷◌, ◌++◌, map, Option, Some, None, option_map, is_some, cond, refl, sym, ap, subst, ◌∙◌}
use Rattle.std.proofs.Common.{arith, true≢false, codes, inl, inr, ⊎_elim, ◌⊎◌}
use Rattle.std.specs.Prelude.{find}
use Rattle.std.specs.List.{list_any}
use Rattle.std.specs.Str.{bytes_eq}
use Rattle.std.proofs.lemmas.Bool.Decides.{eqb_tells}
use Rattle.std.proofs.lemmas.Grind.{common_steps}
use Rattle.std.proofs.lemmas.Slice.Eq.{bytes_eq-Decides}
use Rattle.clap.proofs.CutLemmas.{Lacks}
use Rattle.clap.specs.Walk.{arg_by_id, arg_by_index, arg_by_long, has_long}
use Rattle.clap.specs.Words.{Rule, Shape, new_rule}
use Rattle.clap.specs.Simple.{new_shape}
use Rattle.clap.specs.declared.builder.action.ArgAction.TheVariants.{Set, SetTrue}
use Rattle.clap.specs.declared.builder.value_parser.ValueParser.TheVariants as vp
use Rattle.rs_words.specs.Grammar.{CommandOption, Form, Bytes}

-- an argument that takes one text, as clap builds it
abbrev pub taker : Bytes → Option Bytes → Option ℕ → Rule
taker id long index = record (new_rule id) { long = long; index = index; action = Some Set; range = Some (record { start_inclusive = 1; end_inclusive = 1 }); parser = Some vp.String }

-- a flag, as clap builds it
abbrev pub flagger : Bytes → Rule
flagger name = record (new_rule name) {
  long = Some name;
  action = Some SetTrue;
  range = Some (record { start_inclusive = 0; end_inclusive = 0 });
  defaults = codes "false" ∷ [];
  missing = codes "true" ∷ [];
  parser = Some vp.Bool;
}

abbrev pub built_choice : CommandOption → Rule
built_choice c = if_valued c.is_valued c.name
  where
    if_valued : Bool → Bytes → Rule
    if_valued true name = taker name (Some name) None
    if_valued false name = flagger name

abbrev pub built_word : Option Bytes → List Rule
built_word None = []
built_word (Some id) = taker id None (Some 1) ∷ []

abbrev pub built_rules : Form → List Rule
built_rules f = map built_choice f.choices ++ built_word f.word

abbrev pub built_shape : Form → Shape
built_shape f = record (new_shape f.name) { rules = built_rules f; no_binary_name = true; disable_help_flag = true; disable_help_subcommand = true; is_built = true }

-- ---- texts

pub same_text : (a b : Bytes) → bytes_eq a b ≡ true → a ≡ b
same_text a b e = (bytes_eq-Decides a b).0 e

pub found_passes : {X : Type 0} (p : X → Bool) (xs : List X) (x : X) → find p xs ≡ Some x → p x ≡ true
found_passes p [] x e = cc
found_passes p (y ∷ ys) x e = go (p y) refl e (found_passes p ys x)
  where
    go : (b : Bool) → p y ≡ b → cond b (Some y) (find p ys) ≡ Some x → (find p ys ≡ Some x → p x ≡ true) → p x ≡ true
    go true t f later = let same : y ≡ x = cc in subst (λ z. p z ≡ true) same t
    go false t f later = later f

-- ---- the arguments of a form

or_false : (b : Bool) → (b || false) ≡ b
or_false true = refl
or_false false = refl

long_of_choice : (c : CommandOption) (name : Bytes) → (not (is_some (built_choice c).index) && has_long (built_choice c) name) ≡ bytes_eq c.name name
long_of_choice c name = go c.is_valued refl
  where
    go : (v : Bool) → c.is_valued ≡ v → (not (is_some (built_choice c).index) && has_long (built_choice c) name) ≡ bytes_eq c.name name
    go true e = rw e (or_false (bytes_eq c.name name))
    go false e = rw e (or_false (bytes_eq c.name name))

pub by_long : (f : Form) (name : Bytes) → arg_by_long (built_rules f) name ≡ option_map built_choice (find (λ c. bytes_eq c.name name) f.choices)
by_long f name = go f.choices
  where
    words : (w : Option Bytes) → arg_by_long (built_word w) name ≡ None
    words None = refl
    words (Some id) = refl

    go : (cs : List CommandOption) → arg_by_long (map built_choice cs ++ built_word f.word) name ≡ option_map built_choice (find (λ c. bytes_eq c.name name) cs)
    go [] = words f.word
    go (c ∷ cs) = rw (long_of_choice c name) (by_test (bytes_eq c.name name) (go cs))
      where
        by_test : (b : Bool) → arg_by_long (map built_choice cs ++ built_word f.word) name ≡ option_map built_choice (find (λ k. bytes_eq k.name name) cs)
            → cond b (Some (built_choice c)) (arg_by_long (map built_choice cs ++ built_word f.word) name) ≡ option_map built_choice (cond b (Some c) (find (λ k. bytes_eq k.name name) cs))
        by_test true later = refl
        by_test false later = later

id_of_choice : (c : CommandOption) → (built_choice c).id ≡ c.name
id_of_choice c = go c.is_valued refl
  where
    go : (v : Bool) → c.is_valued ≡ v → (built_choice c).id ≡ c.name
    go true e = rw e refl
    go false e = rw e refl

-- by an id, where some option has that name
pub by_id : (f : Form) (name : Bytes) (c : CommandOption) → find (λ k. bytes_eq k.name name) f.choices ≡ Some c → arg_by_id (built_rules f) name ≡ Some (built_choice c)
by_id f name c e = go f.choices e
  where
    go : (cs : List CommandOption) → find (λ k. bytes_eq k.name name) cs ≡ Some c → arg_by_id (map built_choice cs ++ built_word f.word) name ≡ Some (built_choice c)
    go [] h = cc
    go (k ∷ ks) h = rw (id_of_choice k) (by_test (bytes_eq k.name name) h (go ks))
      where
        by_test : (b : Bool) → cond b (Some k) (find (λ j. bytes_eq j.name name) ks) ≡ Some c
            → (find (λ j. bytes_eq j.name name) ks ≡ Some c → arg_by_id (map built_choice ks ++ built_word f.word) name ≡ Some (built_choice c))
            → cond b (Some (built_choice k)) (arg_by_id (map built_choice ks ++ built_word f.word) name) ≡ Some (built_choice c)
        by_test true t later = let same : k ≡ c = cc in ap (λ z. Some (built_choice z)) same
        by_test false t later = later t

-- by the id of the positional word, where no option has that name
pub by_word : (f : Form) (id : Bytes) → f.word ≡ Some id → find (λ k. bytes_eq k.name id) f.choices ≡ None → arg_by_id (built_rules f) id ≡ Some (taker id None (Some 1))
by_word f id w e = go f.choices e
  where
    words : (o : Option Bytes) → o ≡ Some id → arg_by_id (built_word o) id ≡ Some (taker id None (Some 1))
    words None h = cc
    words (Some i) h = let same : i ≡ id = cc in rw (same, (bytes_eq-Decides id id).1 refl) refl

    go : (cs : List CommandOption) → find (λ k. bytes_eq k.name id) cs ≡ None → arg_by_id (map built_choice cs ++ built_word f.word) id ≡ Some (taker id None (Some 1))
    go [] h = words f.word w
    go (k ∷ ks) h = rw (id_of_choice k) (by_test (bytes_eq k.name id) h (go ks))
      where
        by_test : (b : Bool) → cond b (Some k) (find (λ j. bytes_eq j.name id) ks) ≡ None
            → (find (λ j. bytes_eq j.name id) ks ≡ None → arg_by_id (map built_choice ks ++ built_word f.word) id ≡ Some (taker id None (Some 1)))
            → cond b (Some (built_choice k)) (arg_by_id (map built_choice ks ++ built_word f.word) id) ≡ Some (taker id None (Some 1))
        by_test true t later = cc
        by_test false t later = later t

index_of_choice : (c : CommandOption) → (built_choice c).index ≡ None
index_of_choice c = go c.is_valued refl
  where
    go : (v : Bool) → c.is_valued ≡ v → (built_choice c).index ≡ None
    go true e = rw e refl
    go false e = rw e refl

pub by_index : (f : Form) (i : ℕ) → arg_by_index (built_rules f) i ≡ arg_by_index (built_word f.word) i
by_index f i = go f.choices
  where
    go : (cs : List CommandOption) → arg_by_index (map built_choice cs ++ built_word f.word) i ≡ arg_by_index (built_word f.word) i
    go [] = refl
    go (c ∷ cs) = rw (index_of_choice c) (go cs)

pub second_place : (w : Option Bytes) → arg_by_index (built_word w) 2 ≡ None
second_place None = refl
second_place (Some id) = refl

-- ---- `=` in a text

lacks_more : (c x : ℕ) (xs : List ℕ) → x ≢ c → Lacks c xs → Lacks c (x ∷ xs)
lacks_more c x xs ne h zero lt = ne
lacks_more c x xs ne h (suc i) lt = h i (grind (arith, common_steps))

-- a text without `=`, or what stands before the first one and what behind it
pub record Cut (text : Bytes) : Type 0 where
  pub name : Bytes
  pub value : Bytes
  pub parts : text ≡ name ++ 61 ∷ value
  pub lacks : Lacks 61 name

pub cut : (text : Bytes) → Lacks 61 text ⊎ Cut text
cut [] = inl (λ i lt. absurd (omega arith))
cut (x ∷ xs) = ⊎_elim (λ t. inr (record { name = []; value = xs; parts = ap (λ c. c ∷ xs) t.1; lacks = λ i lt. absurd (omega arith) })) (λ t. next t.1 (cut xs)) (eqb_tells x 61)
  where
    next : x ≢ 61 → Lacks 61 xs ⊎ Cut xs → Lacks 61 (x ∷ xs) ⊎ Cut (x ∷ xs)
    next ne (inl h) = inl (lacks_more 61 x xs ne h)
    next ne (inr h) = inr (record { name = x ∷ h.name; value = h.value; parts = ap (λ t. x ∷ t) h.parts; lacks = lacks_more 61 x h.name ne h.lacks })

pub lacks_from : (xs : Bytes) → list_any (λ x. x == 61) xs ≡ false → Lacks 61 xs
lacks_from [] e = λ i lt. absurd (omega arith)
lacks_from (x ∷ xs) e = ⊎_elim (λ t. absurd (true≢false (sym (ap (λ b. b || list_any (λ y. y == 61) xs) t.0) ∙ e)))
    (λ t. lacks_more 61 x xs t.1 (lacks_from xs (sym (ap (λ b. b || list_any (λ y. y == 61) xs) t.0) ∙ e))) (eqb_tells x 61)

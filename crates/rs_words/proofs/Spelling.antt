-- The shortest words of each command, and what they spell.
use Rattle.std.proofs.Common.{◌≡◌, ◌≤◌, ◌<◌, ◌^◌, ◌==◌, ◌&&◌, ℕ, Bool, true, false, nat_le, List, [], ◌∷◌, ◌++◌, Option, Some, None, cond, refl, ap, ◌∙◌, subst, codes, arith}
use Rattle.std.specs.Prelude.{find, map, option_and_then, option_map}
use Rattle.std.specs.Fmt.{decimal}
use Rattle.std.specs.Str.{bytes_eq}
use Rattle.std.specs.Str.Parse.{AllDigits, digits_value}
use Rattle.std.specs.Char.{digit_value}
use Rattle.std.proofs.lemmas.Bool.{eqb-true}
use Rattle.std.proofs.lemmas.Bool.Decides.{nat_tests}
use Rattle.std.proofs.lemmas.Fmt.{decimal_is_IsNumeral}
use Rattle.std.proofs.lemmas.Slice.Eq.{bytes_eq-Decides}
use Rattle.rs_model.specs.Limits.{IsBound, IsCapacity, IsFromTo}
use Rattle.rs_model.specs.declared.limits.TheConstants.{MOST_BOUND, MOST_CAPACITY}
use Rattle.rs_words.specs.declared.limits.TheConstants.{MOST_GEN, MOST_LIMIT, MOST_SEED}
use Rattle.rs_words.specs.declared.tasks.DocumentTask.TheVariants as on_document
use Rattle.rs_words.specs.declared.tasks.Task.{Task}
use Rattle.rs_words.specs.declared.tasks.Task.TheVariants as task
use Rattle.rs_words.specs.Grammar.{Bytes, Form, WordPiece, value_joined, flag, positional, nothing, begins_with_dash, check_form, draw_form, forms, gen_form, improve_form, option_word, use_of}
use Rattle.rs_words.specs.Meaning.{IsMeaning, SpellsTask, draw_run_task, number_from_to, task_of, text_of_use}
use Rattle.rs_words.proofs.Exact.{asked}

-- ---- numbers

-- the decimal text of a number in the range is read as the number
text_is_number : (low high n : ℕ) → low ≤ n → n ≤ high → n < 2 ^ 64 → number_from_to low high (decimal n) ≡ Some n
text_is_number low high n least most fits =
    let value : digits_value 10 (decimal n) ≡ n = (decimal_is_IsNumeral n fits).1 in
    ap (λ z. cond (bytes_eq (decimal z) (decimal n) && (nat_le low z && nat_le z high)) (Some z) None) value
    ∙ ap (λ z. cond (z && (nat_le low n && nat_le n high)) (Some n) None) ((bytes_eq-Decides (decimal n) (decimal n)).1 refl)
    ∙ ap (λ z. cond (z && nat_le n high) (Some n) None) (below low n least)
    ∙ ap (λ z. cond z (Some n) None) (below n high most)
  where
    below : (a b : ℕ) → a ≤ b → nat_le a b ≡ true
    below a b h = grind (arith, nat_tests)

-- a digit is no dash
no_dash : (ds : List ℕ) → AllDigits 10 ds → begins_with_dash ds ≡ false
no_dash [] h = refl
no_dash (x ∷ xs) h = go (x == 45) refl
  where
    go : (b : Bool) → (x == 45) ≡ b → b ≡ false
    go false e = refl
    go true e = let dash : digit_value 45 < 10 = subst (λ (z : ℕ). digit_value z < 10) (eqb-true x 45 e) h.0 in absurd (omega arith)

-- ---- one piece

-- a command's name alone
pub alone : (form : Form) (spelt : Task) → find (λ f. bytes_eq f.name form.name) forms ≡ Some form → task_of form.name (λ id. text_of_use id []) ≡ Some spelt
    → SpellsTask (form.name ∷ []) spelt
alone form spelt is task = record {
  form = form;
  rest = [];
  uses = [];
  is_command = is;
  words_are = refl;
  rest_spells = record { pieces = []; ending = nothing; words_are = refl; pieces_stand = tt; ending_stands = tt; uses_are = refl; all_new = tt };
  task_is = task;
}

pub bounded_check : (k : ℕ) → IsBound k → SpellsTask (codes "check" ∷ (codes "--bound=" ++ decimal k) ∷ []) (task.OnDocument (on_document.Check (record { bound = k; derivations = false })))
bounded_check k within =
    let piece : WordPiece = value_joined (codes "bound") (decimal k) in
    record {
      form = check_form;
      rest = (codes "--bound=" ++ decimal k) ∷ [];
      uses = use_of check_form piece ∷ [];
      is_command = refl;
      words_are = refl;
      rest_spells = record { pieces = piece ∷ []; ending = nothing; words_are = refl; pieces_stand = (refl, tt); ending_stands = tt; uses_are = refl; all_new = (refl, tt) };
      task_is = ap (λ z. option_map (λ b. task.OnDocument (on_document.Check (record { bound = b; derivations = false }))) z)
          (text_is_number 1 MOST_BOUND k within.0 within.1 (let most = within.1 in omega arith));
    }

pub check_with_derivations : SpellsTask (codes "check" ∷ codes "--derivations" ∷ []) (task.OnDocument (on_document.Check (record { bound = 16; derivations = true })))
check_with_derivations =
    let piece : WordPiece = flag (codes "derivations") in
    record {
      form = check_form;
      rest = codes "--derivations" ∷ [];
      uses = use_of check_form piece ∷ [];
      is_command = refl;
      words_are = refl;
      rest_spells = record { pieces = piece ∷ []; ending = nothing; words_are = refl; pieces_stand = (refl, tt); ending_stands = tt; uses_are = refl; all_new = (refl, tt) };
      task_is = refl;
    }

-- a command's name and its positional word
pub with_word : (form : Form) (id text : Bytes) (spelt : Task) → find (λ f. bytes_eq f.name form.name) forms ≡ Some form → form.word ≡ Some id → begins_with_dash text ≡ false
    → task_of form.name (λ i. text_of_use i (use_of form (positional text) ∷ [])) ≡ Some spelt → SpellsTask (form.name ∷ text ∷ []) spelt
with_word form id text spelt is has plain task = record {
  form = form;
  rest = text ∷ [];
  uses = use_of form (positional text) ∷ [];
  is_command = is;
  words_are = refl;
  rest_spells = record {
    pieces = positional text ∷ [];
    ending = nothing;
    words_are = refl;
    pieces_stand = ((id, has, plain), tt);
    ending_stands = tt;
    uses_are = refl;
    all_new = (refl, tt);
  };
  task_is = task;
}

pub improve_of : (role : Bytes) → begins_with_dash role ≡ false → SpellsTask (codes "improve" ∷ role ∷ []) (task.OnDocument (on_document.Improve (record { role = role; bound = 16; swaps = 1 })))
improve_of role plain = with_word improve_form (codes "role") role _ refl refl plain refl

pub draw_of : (role : Bytes) → begins_with_dash role ≡ false → SpellsTask (codes "draw" ∷ role ∷ []) (task.OnDocument (on_document.Draw (Some role)))
draw_of role plain = with_word draw_form (codes "role") role _ refl refl plain refl

pub gen_of : (n : ℕ) → n ≤ MOST_GEN → SpellsTask (codes "gen" ∷ decimal n ∷ []) (task.Gen n)
gen_of n most =
    let fits : n < 2 ^ 64 = omega (arith, most) in
    with_word gen_form (codes "number") (decimal n) (task.Gen n) refl refl (no_dash (decimal n) (decimal_is_IsNumeral n fits).0.1)
    (ap (λ z. option_map (λ k. task.Gen k) z) (text_is_number 0 MOST_GEN n (omega arith) most fits))

-- ---- `draw --run`

pub draw_run_alone : SpellsTask (codes "draw" ∷ codes "--run" ∷ []) (task.OnDocument (on_document.DrawRun (record { bound = 16; ring = None; limit = 20; seed = 0 })))
draw_run_alone = record {
  form = draw_form;
  rest = codes "--run" ∷ [];
  uses = use_of draw_form (flag (codes "run")) ∷ [];
  is_command = refl;
  words_are = refl;
  rest_spells = record {
    pieces = flag (codes "run") ∷ [];
    ending = nothing;
    words_are = refl;
    pieces_stand = (refl, tt);
    ending_stands = tt;
    uses_are = refl;
    all_new = (refl, tt);
  };
  task_is = refl;
}

-- the task of four texts that are numbers
of_numbers : (k c l x : ℕ) (bound ring limit seed : Bytes) → number_from_to 1 MOST_BOUND bound ≡ Some k → number_from_to 1 MOST_CAPACITY ring ≡ Some c
    → number_from_to 1 MOST_LIMIT limit ≡ Some l → number_from_to 0 MOST_SEED seed ≡ Some x
    → draw_run_task (Some bound) (Some ring) (Some limit) (Some seed) ≡ Some (task.OnDocument (on_document.DrawRun (record { bound = k; ring = Some c; limit = l; seed = x })))
of_numbers k c l x bound ring limit seed is_bound is_ring is_limit is_seed =
    ap (λ o. option_and_then (λ b. option_and_then (λ r. option_and_then (λ m. option_map (λ s. drawn b r m s) (number_from_to 0 MOST_SEED seed))
    (number_from_to 1 MOST_LIMIT limit)) (option_map (λ n. Some n) (number_from_to 1 MOST_CAPACITY ring))) o) is_bound
    ∙ ap (λ o. option_and_then (λ r. option_and_then (λ m. option_map (λ s. drawn k r m s) (number_from_to 0 MOST_SEED seed)) (number_from_to 1 MOST_LIMIT limit)) (option_map (λ n. Some n) o)) is_ring
    ∙ ap (λ o. option_and_then (λ m. option_map (λ s. drawn k (Some c) m s) (number_from_to 0 MOST_SEED seed)) o) is_limit
    ∙ ap (λ o. option_map (λ s. drawn k (Some c) l s) o) is_seed
  where
    drawn : ℕ → Option ℕ → ℕ → ℕ → Task
    drawn b r m s = task.OnDocument (on_document.DrawRun (record { bound = b; ring = r; limit = m; seed = s }))

pub draw_run_with_options : (k c l x : ℕ) → IsBound k → IsCapacity c → IsFromTo 1 MOST_LIMIT l → IsFromTo 0 MOST_SEED x
    → SpellsTask (codes "draw" ∷ codes "--run" ∷ (codes "--bound=" ++ decimal k) ∷ (codes "--ring=" ++ decimal c) ∷ (codes "--limit=" ++ decimal l) ∷ (codes "--seed=" ++ decimal x) ∷ [])
    (task.OnDocument (on_document.DrawRun (record { bound = k; ring = Some c; limit = l; seed = x })))
draw_run_with_options k c l x bound ring limit seed =
    let pieces : List WordPiece = flag (codes "run") ∷ value_joined (codes "bound") (decimal k) ∷ value_joined (codes "ring") (decimal c) ∷ value_joined (codes "limit") (decimal l)
    ∷ value_joined (codes "seed") (decimal x) ∷ [] in
    record {
      form = draw_form;
      rest = codes "--run" ∷ (codes "--bound=" ++ decimal k) ∷ (codes "--ring=" ++ decimal c) ∷ (codes "--limit=" ++ decimal l) ∷ (codes "--seed=" ++ decimal x) ∷ [];
      uses = map (use_of draw_form) pieces;
      is_command = refl;
      words_are = refl;
      rest_spells = record {
        pieces = pieces;
        ending = nothing;
        words_are = refl;
        pieces_stand = (refl, (refl, (refl, (refl, (refl, tt)))));
        ending_stands = tt;
        uses_are = refl;
        all_new = (refl, (refl, (refl, (refl, (refl, tt)))));
      };
      task_is = of_numbers k c l x (decimal k) (decimal c) (decimal l) (decimal x) (text_is_number 1 MOST_BOUND k bound.0 bound.1 (let most = bound.1 in omega arith))
          (text_is_number 1 MOST_CAPACITY c ring.0 ring.1 (let most = ring.1 in omega arith)) (text_is_number 1 MOST_LIMIT l limit.0 limit.1 (let most = limit.1 in omega arith))
          (text_is_number 0 MOST_SEED x seed.0 seed.1 (let most = seed.1 in omega arith));
    }

-- no task is asked for
asks_for_none : (o : Option Task) (t : Task) → o ≡ None → o ≡ Some t → ⊥
asks_for_none o t a b = cc

pub draw_run_of_no_role : (role : Bytes) → begins_with_dash role ≡ false → IsMeaning (codes "draw" ∷ codes "--run" ∷ role ∷ []) None
draw_run_of_no_role role plain = λ any s. asks_for_none _ any refl (asked draw_form refl (codes "--run" ∷ role ∷ []) (map (use_of draw_form) (flag (codes "run") ∷ positional role ∷ [])) (record {
  pieces = flag (codes "run") ∷ positional role ∷ [];
  ending = nothing;
  words_are = refl;
  pieces_stand = (refl, ((codes "role", refl, plain), tt));
  ending_stands = tt;
  uses_are = refl;
  all_new = (refl, (refl, tt));
}) any s)

-- `draw` with one option of a run alone
pub draw_with_option : (name text : Bytes) → find (λ c. bytes_eq c.name name) draw_form.choices ≡ Some (record { name = name; is_valued = true })
    → task_of (codes "draw") (λ id. text_of_use id (record { id = name; value = text } ∷ [])) ≡ None → IsMeaning (codes "draw" ∷ option_word (name ++ 61 ∷ text) ∷ []) None
draw_with_option name text has none = λ any s. asks_for_none _ any none (asked draw_form refl (option_word (name ++ 61 ∷ text) ∷ []) (record { id = name; value = text } ∷ []) (record {
  pieces = value_joined name text ∷ [];
  ending = nothing;
  words_are = refl;
  pieces_stand = (has, tt);
  ending_stands = tt;
  uses_are = refl;
  all_new = (refl, tt);
}) any s)

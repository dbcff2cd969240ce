-- The numbers of a task that words spell lie in their ranges.
use Rattle.std.proofs.Common.{◌≡◌, ◌≤◌, ◌==◌, ℕ, Bool, true, false, ◌&&◌, nat_le, List, Option, Some, None, option_map, cond, refl, subst, codes, arith}
use Rattle.std.specs.Prelude.{IfSome, option_and_then, is_some}
use Rattle.std.specs.Fmt.{decimal}
use Rattle.std.specs.Str.{bytes_eq}
use Rattle.std.specs.Str.Parse.{digits_value}
use Rattle.std.proofs.lemmas.Bool.Decides.{nat_tests}
use Rattle.clap.proofs.WalkLemmas.{both}
use Rattle.rs_model.specs.Limits.{IsFromTo}
use Rattle.rs_model.specs.declared.limits.TheConstants.{DEFAULT_BOUND, MOST_BOUND, MOST_CAPACITY, MOST_WORKERS}
use Rattle.rs_model.specs.declared.runs.Workers.TheVariants.{One, Several}
use Rattle.rs_model.specs.declared.demos.Demo.{Demo}
use Rattle.rs_words.specs.declared.limits.TheConstants.{DEFAULT_DRAWN_LIMIT, DEFAULT_LIMIT, MOST_GEN, MOST_LIMIT, MOST_SEED, MOST_SWAPS}
use Rattle.rs_words.specs.declared.tasks.Task.{Task}
use Rattle.rs_words.specs.declared.tasks.DocumentTask.TheVariants as on_document
use Rattle.rs_words.specs.declared.tasks.Task.TheVariants as task
use Rattle.rs_words.specs.Grammar.{Bytes}
use Rattle.rs_words.specs.Meaning.{AreWorkers, IsInRange, SpellsTask, bound_of_option, check_task, demo_of_name, demo_task, draw_plain_task, draw_run_task, draw_task, drawn_limit_in, explain_task, has_run_options, gen_task, improve_task, limit_in, number_from_to, number_or_else, optional_in, ring_in}
use Rattle.rs_words.specs.Meaning.{run_task, seed_in, swaps_in, task_of, text_of_use, workers_in, workers_of_number}

-- numbers

number_is_in : (low high : ℕ) (text : Bytes) → IfSome (number_from_to low high text) (IsFromTo low high)
number_is_in low high text = go (bytes_eq (decimal n) text && (nat_le low n && nat_le n high)) refl
  where
    n : ℕ
    n = digits_value 10 text

    go : (b : Bool) → (bytes_eq (decimal n) text && (nat_le low n && nat_le n high)) ≡ b → IfSome (cond b (Some n) None) (IsFromTo low high)
    go false e = tt
    go true e =
        let tests = both (bytes_eq (decimal n) text) (nat_le low n && nat_le n high) e in
        let bounds = both (nat_le low n) (nat_le n high) tests.1 in
        let least : low ≤ n = let l = bounds.0 in grind (arith, nat_tests) in
        let most : n ≤ high = let l = bounds.1 in grind (arith, nat_tests) in (least, most)

number_or_is_in : (fallback low high : ℕ) (text : Option Bytes) → IsFromTo low high fallback → IfSome (number_or_else fallback low high text) (IsFromTo low high)
number_or_is_in fallback low high None own = own
number_or_is_in fallback low high (Some text) own = number_is_in low high text

optional_is_in : (low high : ℕ) (text : Option Bytes) → IfSome (optional_in low high text) (λ o. IfSome o (IsFromTo low high))
optional_is_in low high None = tt
optional_is_in low high (Some text) = go (number_from_to low high text) (number_is_in low high text)
  where
    go : (o : Option ℕ) → IfSome o (IsFromTo low high) → IfSome (option_map (λ n. Some n) o) (λ o. IfSome o (IsFromTo low high))
    go None h = tt
    go (Some n) h = h

workers_are_in : (text : Option Bytes) → IfSome (workers_in text) AreWorkers
workers_are_in text = go (number_or_else 1 1 MOST_WORKERS text) (number_or_is_in 1 1 MOST_WORKERS text (omega arith, omega arith))
  where
    several : (n : ℕ) (b : Bool) → (n == 1) ≡ b → IsFromTo 1 MOST_WORKERS n → AreWorkers (cond b One (Several n))
    several n true e h = tt
    several n false e h = let least = h.0 in let most = h.1 in (grind (arith, nat_tests), most)

    go : (o : Option ℕ) → IfSome o (IsFromTo 1 MOST_WORKERS) → IfSome (option_map workers_of_number o) AreWorkers
    go None h = tt
    go (Some n) h = several n (n == 1) refl h

-- tasks

and_then_is_in : {A B : Type 0} (P : A → Type 0) (Q : B → Type 0) (f : A → Option B) (o : Option A) → IfSome o P → ((a : A) → P a → IfSome (f a) Q) → IfSome (option_and_then f o) Q
and_then_is_in P Q f None h next = tt
and_then_is_in P Q f (Some a) h next = next a h

map_is_in : {A : Type 0} (P : A → Type 0) (f : A → Task) (o : Option A) → IfSome o P → ((a : A) → P a → IsInRange (f a)) → IfSome (option_map f o) IsInRange
map_is_in P f None h next = tt
map_is_in P f (Some a) h next = next a h

check_is_in : (bound : Option Bytes) (derivations : Bool) → IfSome (check_task bound derivations) IsInRange
check_is_in bound derivations = map_is_in (IsFromTo 1 MOST_BOUND) (λ k. task.OnDocument (on_document.Check (record { bound = k; derivations = derivations }))) (bound_of_option bound)
    (number_or_is_in DEFAULT_BOUND 1 MOST_BOUND bound (omega arith, omega arith)) (λ k h. h)

run_is_in : (bound ring workers limit seed : Option Bytes) → IfSome (run_task bound ring workers limit seed) IsInRange
run_is_in bound ring workers limit seed =
    and_then_is_in (IsFromTo 1 MOST_BOUND) IsInRange _ (bound_of_option bound) (number_or_is_in DEFAULT_BOUND 1 MOST_BOUND bound (omega arith, omega arith)) (λ k hk.
    and_then_is_in (λ o. IfSome o (IsFromTo 1 MOST_CAPACITY)) IsInRange _ (ring_in ring) (optional_is_in 1 MOST_CAPACITY ring) (λ c hc.
    and_then_is_in AreWorkers IsInRange _ (workers_in workers) (workers_are_in workers) (λ n hn.
    and_then_is_in (IsFromTo 1 MOST_LIMIT) IsInRange _ (limit_in limit) (number_or_is_in DEFAULT_LIMIT 1 MOST_LIMIT limit (omega arith, omega arith)) (λ l hl.
    map_is_in (IsFromTo 0 MOST_SEED) (λ x. task.OnDocument (on_document.Run (record { bound = k; ring = c; limit = l; seed = x }) n)) (seed_in seed)
    (number_or_is_in 0 0 MOST_SEED seed (omega arith, omega arith)) (λ x hx. (hk, hc, hn, hl, hx))))))

demo_is_in : (name ring workers : Option Bytes) → IfSome (demo_task name ring workers) IsInRange
demo_is_in name ring workers = go (option_and_then demo_of_name name)
  where
    go : (o : Option Demo) → IfSome (option_and_then (λ d. option_and_then (λ c. option_map (λ n. task.OnData (record { kind = d; ring = c; workers = n })) (workers_in workers)) (ring_in ring)) o)
        IsInRange
    go None = tt
    go (Some d) =
        and_then_is_in (λ o. IfSome o (IsFromTo 1 MOST_CAPACITY)) IsInRange _ (ring_in ring) (optional_is_in 1 MOST_CAPACITY ring) (λ c hc.
        map_is_in AreWorkers (λ n. task.OnData (record { kind = d; ring = c; workers = n })) (workers_in workers) (workers_are_in workers) (λ n hn. (hc, hn)))

improve_is_in : (role swaps bound : Option Bytes) → IfSome (improve_task role swaps bound) IsInRange
improve_is_in None swaps bound = tt
improve_is_in (Some r) swaps bound =
    and_then_is_in (IsFromTo 1 MOST_SWAPS) IsInRange _ (swaps_in swaps) (number_or_is_in 1 1 MOST_SWAPS swaps (omega arith, omega arith)) (λ n hn.
    map_is_in (IsFromTo 1 MOST_BOUND) (λ k. task.OnDocument (on_document.Improve (record { role = r; bound = k; swaps = n }))) (bound_of_option bound)
    (number_or_is_in DEFAULT_BOUND 1 MOST_BOUND bound (omega arith, omega arith)) (λ k hk. (hk, hn)))

gen_is_in : (number : Option Bytes) → IfSome (gen_task number) IsInRange
gen_is_in None = tt
gen_is_in (Some text) = map_is_in (IsFromTo 0 MOST_GEN) (λ n. task.Gen n) (number_from_to 0 MOST_GEN text) (number_is_in 0 MOST_GEN text) (λ n h. h)

explain_is_in : (bound : Option Bytes) → IfSome (explain_task bound) IsInRange
explain_is_in bound = map_is_in (IsFromTo 1 MOST_BOUND) (λ k. task.OnDocument (on_document.Explain k)) (bound_of_option bound)
    (number_or_is_in DEFAULT_BOUND 1 MOST_BOUND bound (omega arith, omega arith)) (λ k h. h)

either_is_in : (b : Bool) (x y : Option Task) → IfSome x IsInRange → IfSome y IsInRange → IfSome (cond b x y) IsInRange
either_is_in true x y h k = h
either_is_in false x y h k = k

draw_run_is_in : (bound ring limit seed : Option Bytes) → IfSome (draw_run_task bound ring limit seed) IsInRange
draw_run_is_in bound ring limit seed =
    and_then_is_in (IsFromTo 1 MOST_BOUND) IsInRange _ (bound_of_option bound) (number_or_is_in DEFAULT_BOUND 1 MOST_BOUND bound (omega arith, omega arith)) (λ k hk.
    and_then_is_in (λ o. IfSome o (IsFromTo 1 MOST_CAPACITY)) IsInRange _ (ring_in ring) (optional_is_in 1 MOST_CAPACITY ring) (λ c hc.
    and_then_is_in (IsFromTo 1 MOST_LIMIT) IsInRange _ (drawn_limit_in limit) (number_or_is_in DEFAULT_DRAWN_LIMIT 1 MOST_LIMIT limit (omega arith, omega arith)) (λ l hl.
    map_is_in (IsFromTo 0 MOST_SEED) (λ x. task.OnDocument (on_document.DrawRun (record { bound = k; ring = c; limit = l; seed = x }))) (seed_in seed)
    (number_or_is_in 0 0 MOST_SEED seed (omega arith, omega arith)) (λ x hx. (hk, hc, hl, hx)))))

draw_is_in : (is_run : Bool) (role bound ring limit seed : Option Bytes) → IfSome (draw_task is_run role bound ring limit seed) IsInRange
draw_is_in is_run role bound ring limit seed =
    either_is_in is_run _ _ (either_is_in (is_some role) None (draw_run_task bound ring limit seed) tt (draw_run_is_in bound ring limit seed))
    (either_is_in (has_run_options bound ring limit seed) None (Some (draw_plain_task role)) tt tt)

task_is_in : (name : Bytes) (value : Bytes → Option Bytes) → IfSome (task_of name value) IsInRange
task_is_in name value =
    either_is_in (bytes_eq name (codes "check")) _ _ (check_is_in (value (codes "bound")) (is_some (value (codes "derivations")))) (
    either_is_in (bytes_eq name (codes "verify")) _ _ tt (
    either_is_in (bytes_eq name (codes "migrate")) _ _ tt (
    either_is_in (bytes_eq name (codes "show")) _ _ tt (
    either_is_in (bytes_eq name (codes "project")) _ _ tt (
    either_is_in (bytes_eq name (codes "run")) _ _ (run_is_in (value (codes "bound")) (value (codes "ring")) (value (codes "workers")) (value (codes "limit")) (value (codes "seed"))) (
    either_is_in (bytes_eq name (codes "demo")) _ _ (demo_is_in (value (codes "name")) (value (codes "ring")) (value (codes "workers"))) (
    either_is_in (bytes_eq name (codes "gen")) _ _ (gen_is_in (value (codes "number"))) (
    either_is_in (bytes_eq name (codes "improve")) _ _ (improve_is_in (value (codes "role")) (value (codes "swaps")) (value (codes "bound"))) (
    either_is_in (bytes_eq name (codes "explain")) _ _ (explain_is_in (value (codes "bound"))) (
    either_is_in (bytes_eq name (codes "draw")) _ None
    (draw_is_in (is_some (value (codes "run"))) (value (codes "role")) (value (codes "bound")) (value (codes "ring")) (value (codes "limit")) (value (codes "seed"))) tt))))))))))

pub spelt_numbers_are_in_range : (words : List Bytes) (t : Task) → SpellsTask words t → IsInRange t
spelt_numbers_are_in_range words t s = go (task_of s.form.name (λ id. text_of_use id s.uses)) s.task_is (task_is_in s.form.name (λ id. text_of_use id s.uses))
  where
    go : (o : Option Task) → o ≡ Some t → IfSome o IsInRange → IsInRange t
    go None e h = cc
    go (Some u) e h = let same : u ≡ t = cc in subst IsInRange same h

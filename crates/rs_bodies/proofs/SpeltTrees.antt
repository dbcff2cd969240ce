-- What the tokens of a part lead the reader to: its names and what it spells where it fits, else a fault.
use Rattle.std.proofs.Common.{◌≡◌, ℕ, suc, ◌+◌, ◌<◌, ◌≤◌, List, [], ◌∷◌, ◌++◌, length, map, codes, Bool, true, false, ◌||◌, if◌then◌else◌, nat_le, Option, Some, None, Ok, inl, inr, refl, sym, ap}
use Rattle.std.proofs.Common.{◌∙◌, subst, arith, append_assoc, append-nil, length-append}
use Rattle.std.specs.List.{flat_map}
use Rattle.std.specs.Str.{bytes_eq}
use Rattle.std.proofs.lemmas.Bool.{leb-true, leb-false}
use Rattle.std.proofs.lemmas.List.{map-append}
use Rattle.std.proofs.lemmas.Slice.Eq.{bytes_eq-Decides}
use Rattle.rs_model.specs.Data.{Names_data}
use Rattle.rs_model.specs.declared.graph.Role.{Role}
use Rattle.rs_text.specs.declared.faults.TextKind.TheVariants as kind
use Rattle.rs_bodies.specs.declared.dialects.Dialect.{Dialect}
use Rattle.rs_bodies.specs.declared.dialects.Dialect.TheVariants.{Talks, Acts}
use Rattle.rs_bodies.specs.declared.reading.Link.TheVariants as link
use Rattle.rs_bodies.specs.declared.reading.Mode.{Mode}
use Rattle.rs_bodies.specs.declared.reading.Mode.TheVariants as mode
use Rattle.rs_text.specs.Names.{place_of, is_among, names_with, number_or, BoundNames, differ}
use Rattle.rs_text.specs.Signs.{Sign, plain, colon, comma}
use Rattle.rs_text.proofs.Gaps.{true_or_false}
use Rattle.rs_text.proofs.Naming.{among, not_among, grown_differ}
use Rattle.rs_bodies.specs.Data.{Reader_data, Draft_data}
use Rattle.rs_bodies.specs.Drafts.{point_of_draft, settled_arm, settled_target, spelling_read, names_read}
use Rattle.rs_bodies.specs.Openings.{Opening, of_roles, of_role, further_signs, line_signs, opening_signs, roles_in}
use Rattle.rs_bodies.specs.Trees.{Body, ends, again, binds, acts, offers, Branches, one, more, body_signs, ends_by_name, ends_a_name}
use Rattle.rs_bodies.specs.Graph.{labels_of, acts_in, has_end, Numbering, first_of, arm_spelt, arms_of}
use Rattle.rs_bodies.specs.Points.{point_of, points_of}
use Rattle.rs_bodies.proofs.ArmPoints.{points_of_arms}
use Rattle.rs_bodies.specs.Spells.{Tree, tree_signs, OpeningFits, Fits, names_of, numbering}
use Rattle.rs_bodies.specs.Spellings.{own_role, spelling_of}
use Rattle.rs_bodies.specs.Feeding.{start_of_part, new_role, role_by, is_read, feeding}
use Rattle.rs_text.specs.Readings.{fault}
use Rattle.rs_text.proofs.Leading.{Tells, Exact, tells_if}
use Rattle.rs_bodies.proofs.SpeltSteps.{target, arms_to, drafts_of, drafts_in}
use Rattle.rs_bodies.proofs.SpeltBodies.{drafts_count, body_exact}

-- ---- heads

target_is : (dia : Dialect) (b : Body dia) (bound : BoundNames) (count last : ℕ) → settled_target last (target dia b bound count) ≡ first_of dia b bound count last
target_is dia ends bound count last = refl
target_is dia (again x) bound count last = refl
target_is dia (binds x body) bound count last = target_is dia body ((x, count) ∷ bound) count last
target_is dia (acts x y l s body) bound count last = refl
target_is dia (offers x y arms) bound count last = refl

arms_are : (dia : Dialect) (m : Numbering) (arms : Branches dia) (bound : BoundNames) (count : ℕ) → map (settled_arm m.last) (arms_to dia m arms bound count) ≡ arms_of dia m arms bound count
arms_are dia m (one l s body) bound count = ap (λ z. arm_spelt m l s z ∷ []) (target_is dia body bound count m.last)
arms_are dia m (more l s body arms) bound count = ap (λ z. arm_spelt m l s z ∷ map (settled_arm m.last) (arms_to dia m arms bound (count + acts_in dia body))) (target_is dia body bound count m.last)
    ∙ ap (λ z. arm_spelt m l s (first_of dia body bound count m.last) ∷ z) (arms_are dia m arms bound (count + acts_in dia body))

mutual
  points_are : (dia : Dialect) (m : Numbering) (b : Body dia) (bound : BoundNames) (count : ℕ) → map (point_of_draft m.last) (drafts_of dia m b bound count) ≡ points_of dia m b bound count
  points_are dia m ends bound count = refl
  points_are dia m (again x) bound count = refl
  points_are dia m (binds x body) bound count = points_are dia m body ((x, count) ∷ bound) count
  points_are dia m (acts x y l s body) bound count =
      ap (λ z. point_of dia m x y (arm_spelt m l s z ∷ []) ∷ map (point_of_draft m.last) (drafts_of dia m body bound (suc count))) (target_is dia body bound (suc count) m.last)
      ∙ ap (λ z. point_of dia m x y (arm_spelt m l s (first_of dia body bound (suc count) m.last) ∷ []) ∷ z) (points_are dia m body bound (suc count))
  points_are dia m (offers x y arms) bound count = ap (λ z. point_of dia m x y z ∷ map (point_of_draft m.last) (drafts_in dia m arms bound (suc count))) (arms_are dia m arms bound (suc count))
      ∙ ap (λ z. point_of dia m x y (arms_of dia m arms bound (suc count)) ∷ z) (arm_points_are dia m arms bound (suc count))

  arm_points_are : (dia : Dialect) (m : Numbering) (arms : Branches dia) (bound : BoundNames) (count : ℕ)
      → map (point_of_draft m.last) (drafts_in dia m arms bound count) ≡ points_of_arms dia m arms bound count
  arm_points_are dia m (one l s body) bound count = points_are dia m body bound count
  arm_points_are dia m (more l s body arms) bound count = map-append (point_of_draft m.last) (drafts_of dia m body bound count) (drafts_in dia m arms bound (count + acts_in dia body))
      ∙ ap (λ z. z ++ map (point_of_draft m.last) (drafts_in dia m arms bound (count + acts_in dia body))) (points_are dia m body bound count)
      ∙ ap (λ z. points_of dia m body bound count ++ z) (arm_points_are dia m arms bound (count + acts_in dia body))

spelling_is : (dia : Dialect) (old : Names_data) (t : Tree dia) (role : Role) (drafts : List Draft_data) (start : Option ℕ) (ended : Bool) → role ≡ own_role dia (numbering dia old t) t.opening
    → drafts ≡ drafts_of dia (numbering dia old t) t.body [] 0 → start ≡ target dia t.body [] 0 → ended ≡ has_end dia t.body
    → record { role = role; points = map (point_of_draft (length drafts)) drafts; ended = ended; start = settled_target (length drafts) start } ≡ spelling_of dia old t
spelling_is dia old t role drafts start ended k d o e =
    let own : Role = own_role dia (numbering dia old t) t.opening in
    let last : ℕ = acts_in dia t.body in
    let size : length drafts ≡ last = ap length d ∙ drafts_count dia (numbering dia old t) t.body [] 0 in
    let points : map (point_of_draft (length drafts)) drafts ≡ points_of dia (numbering dia old t) t.body [] 0
    = ap (λ z. map (point_of_draft z) drafts) size ∙ ap (λ z. map (point_of_draft last) z) d ∙ points_are dia (numbering dia old t) t.body [] 0 in
    let first : settled_target (length drafts) start ≡ first_of dia t.body [] 0 last = ap (λ z. settled_target z start) size ∙ ap (λ z. settled_target last z) o ∙ target_is dia t.body [] 0 last in
    ap (λ z. record { role = z; points = map (point_of_draft (length drafts)) drafts; ended = ended; start = settled_target (length drafts) start }) k
    ∙ ap (λ z. record { role = own; points = z; ended = ended; start = settled_target (length drafts) start }) points
    ∙ ap (λ z. record { role = own; points = points_of dia (numbering dia old t) t.body [] 0; ended = z; start = settled_target (length drafts) start }) e
    ∙ ap (λ z. record { role = own; points = points_of dia (numbering dia old t) t.body [] 0; ended = has_end dia t.body; start = z }) first

if_false : (b z : Bool) → z ≡ false → (if b then false else z) ≡ false
if_false true z h = refl
if_false false z h = h

or_true : (a : Bool) → (a || true) ≡ true
or_true true = refl
or_true false = refl

any_in : (names : List (List ℕ)) (x : List ℕ) (xs : List (List ℕ)) → is_among x (names ++ x ∷ xs) ≡ true
any_in [] x xs = ap (λ z. z || is_among x xs) ((bytes_eq-Decides x x).1 refl)
any_in (n ∷ names) x xs = ap (λ z. bytes_eq n x || z) (any_in names x xs) ∙ or_true (bytes_eq n x)

-- a name that is there already
twice : (names : List (List ℕ)) (x : List ℕ) (xs : List (List ℕ)) → is_among x names ≡ true → differ (names ++ x ∷ xs) ≡ false
twice [] x xs h = cc
twice (n ∷ names) x xs h = elim (true_or_false (bytes_eq n x)) [
  | inl e ↦ ap (λ z. if z then false else differ (names ++ x ∷ xs)) (subst (λ (z : List ℕ). is_among z (names ++ x ∷ xs) ≡ true) (sym ((bytes_eq-Decides n x).0 e)) (any_in names x xs))
  | inr e ↦ if_false (is_among n (names ++ x ∷ xs)) (differ (names ++ x ∷ xs)) (twice names x xs (sym (ap (λ z. z || is_among x names) e) ∙ h))
]

new_differ : (names : List (List ℕ)) (w : List ℕ) → is_among w names ≡ false → differ names ≡ true → differ (names ++ w ∷ []) ≡ true
new_differ names w e h = rw e at (grown_differ (w ∷ []) names h)

too_many : (names : List (List ℕ)) (x : List ℕ) (xs : List (List ℕ)) → nat_le 16 (length names) ≡ true → 16 < length (names ++ x ∷ xs)
too_many names x xs h = let e : length (names ++ x ∷ xs) ≡ length names + length (x ∷ xs) = length-append names (x ∷ xs) in let k : 16 ≤ length names = leb-true 16 (length names) h in omega arith

few_more : (names : List (List ℕ)) (x : List ℕ) → nat_le 16 (length names) ≡ false → length (names ++ x ∷ []) ≤ 16
few_more names x h = let e : length (names ++ x ∷ []) ≡ length names + 1 = length-append names (x ∷ []) in let k : length names < 16 = leb-false 16 (length names) h in omega arith

role_exact : (after : Mode) (word : List ℕ) (at : ℕ) (r : Reader_data) (N : Type 0) (Q : Reader_data → Type 0) → (is_among word r.roles ≡ true → N) → (nat_le 16 (length r.roles) ≡ true → N)
    → (is_among word r.roles ≡ false → nat_le 16 (length r.roles) ≡ false → Q (record r { roles = r.roles ++ word ∷ []; mode = after })) → Tells (new_role after (Some word) at r) N Q
role_exact after word at r N Q twin many h =
    tells_if (is_among word r.roles) kind.NameTwice at (if nat_le 16 (length r.roles) then fault kind.TooManyRoles at else Ok (record r { roles = r.roles ++ word ∷ []; mode = after })) N Q twin
    (λ e. tells_if (nat_le 16 (length r.roles)) kind.TooManyRoles at (Ok (record r { roles = r.roles ++ word ∷ []; mode = after })) N Q many (λ f. h e f))

line_exact : (xs : List (List ℕ)) (r : Reader_data) (ts : List Sign) (u : Sign) (N : Type 0) (Q : Reader_data → Type 0) → (differ (r.roles ++ xs) ≡ false → N) → (16 < length (r.roles ++ xs) → N)
    → differ r.roles ≡ true → length r.roles ≤ 16
    → (differ (r.roles ++ xs) ≡ true → length (r.roles ++ xs) ≤ 16 → Exact (feeding Talks) ts u N Q (record r { roles = r.roles ++ xs; mode = mode.Line }))
    → Exact (feeding Talks) (flat_map further_signs xs ++ ts) u N Q (record r { mode = mode.Line })
line_exact [] r ts u N Q twin many d n h = subst (λ (z : List (List ℕ)). Exact (feeding Talks) ts u N Q (record r { roles = z; mode = mode.Line })) (append-nil r.roles)
    (h (ap differ (append-nil r.roles) ∙ d) (subst (λ (z : List (List ℕ)). length z ≤ 16) (sym (append-nil r.roles)) n))
line_exact (x ∷ xs) r ts u N Q twin many d n h =
    λ a f k. λ a f k. role_exact mode.Line x a (record r { mode = mode.FurtherRole }) N (λ e. Exact (feeding Talks) (flat_map further_signs xs ++ ts) u N Q e)
    (λ e. twin (twice r.roles x xs e)) (λ e. many (too_many r.roles x xs e))
    (λ e g.
    let same : (r.roles ++ x ∷ []) ++ xs ≡ r.roles ++ x ∷ xs = append_assoc r.roles (x ∷ []) xs in
    line_exact xs (record r { roles = r.roles ++ x ∷ [] }) ts u N Q (λ z. twin (ap differ (sym same) ∙ z)) (λ z. many (subst (λ (w : List (List ℕ)). 16 < length w) same z)) (new_differ r.roles x e d)
    (few_more r.roles x g)
    (λ z w. subst (λ (q : List (List ℕ)). Exact (feeding Talks) ts u N Q (record r { roles = q; mode = mode.Line })) (sym same)
    (h (ap differ (sym same) ∙ z) (subst (λ (q : List (List ℕ)). length q ≤ 16) same w))))

role_known : (found : Option ℕ) (x : List ℕ) (at : ℕ) (r : Reader_data) (N : Type 0) (Q : Reader_data → Type 0) → place_of x r.roles ≡ found → (is_among x r.roles ≡ false → N)
    → (is_among x r.roles ≡ true → Q (record r { role = record { 0 = number_or found }; mode = mode.AtColon })) → Tells (role_by found at r) N Q
role_known None x at r N Q e n h = n (not_among r.roles x 0 e)
role_known (Some k) x at r N Q e n h = h (among r.roles x 0 k e)

-- an opening leads to its body where it fits
opening_exact : (dia : Dialect) (old : Names_data) (m : Numbering) (o : Opening dia) (ts : List Sign) (u : Sign) (N : Type 0) (Q : Reader_data → Type 0) → m.names.roles ≡ roles_in dia old o
    → ((OpeningFits dia old o → ⊥) → N)
    → (OpeningFits dia old o → (k : Role) → k ≡ own_role dia m o → Exact (feeding dia) ts u N Q (record (start_of_part dia old) { roles = roles_in dia old o; role = k; mode = mode.Body link.Start }))
    → Exact (feeding dia) (opening_signs dia o ++ ts) u N Q (start_of_part dia old)
opening_exact Talks old m (of_roles x y xs) ts u N Q same n h =
    subst (λ (z : List Sign). Exact (feeding Talks) z u N Q (start_of_part Talks old)) (sym (append_assoc (line_signs x (y ∷ xs)) (plain (codes "protocol") ∷ []) ts))
    (λ a f b. λ a f b. role_exact mode.FirstComma x a (record (start_of_part Talks old) { mode = mode.FirstRole }) N
    (λ d. Exact (feeding Talks) (comma ∷ plain y ∷ (flat_map further_signs xs ++ plain (codes "protocol") ∷ ts)) u N Q d)
    (λ e. absurd (cc e)) (λ e. absurd (cc e))
    (λ _ _. line_exact (y ∷ xs) (record (start_of_part Talks old) { roles = x ∷ [] }) (plain (codes "protocol") ∷ ts) u N Q
    (λ e. n (λ f. absurd (cc (sym e ∙ f.0)))) (λ e. n (λ f. let k : length (x ∷ y ∷ xs) ≤ 16 = f.1 in let j : 16 < length (x ∷ y ∷ xs) = e in absurd (omega arith))) refl (omega arith)
    (λ d few. λ a f b. h (d, few) (record { 0 = 0 }) refl)))
opening_exact Acts old m (of_role x) ts u N Q same n h =
    λ a f b. λ a f b. role_known (place_of x old.roles) x a (record (start_of_part Acts old) { mode = mode.AtRole }) N (λ d. Exact (feeding Acts) (colon ∷ ts) u N Q d) refl
    (λ e. n (λ k. absurd (cc (sym e ∙ k)))) (λ known. λ a f b. h known (record { 0 = number_or (place_of x old.roles) }) (ap (λ z. record { 0 = number_or (place_of x z) }) (sym same)))

-- the reader has read this tree
pub record IsRead (dia : Dialect) (old : Names_data) (t : Tree dia) (d : Reader_data) : Type 0 where
  pub fits : Fits dia old t
  pub read : is_read d ≡ true
  pub names : names_read d ≡ names_of dia old t
  pub spelling : spelling_read d ≡ spelling_of dia old t

pub tree_exact : (dia : Dialect) (old : Names_data) (t : Tree dia) (u : Sign) → (ends_by_name dia t.body ≡ true → ends_a_name dia u ≡ true)
    → Exact (feeding dia) (tree_signs dia t) u (Fits dia old t → ⊥) (IsRead dia old t) (start_of_part dia old)
tree_exact dia old t u point_of_draft =
    let N : Type 0 = Fits dia old t → ⊥ in
    let roles : List (List ℕ) = roles_in dia old t.opening in
    let all : List (List ℕ) = names_with old.labels (labels_of dia t.body) in
    opening_exact dia old (numbering dia old t) t.opening (body_signs dia t.body) u N (IsRead dia old t) refl (λ n f. n f.opening)
    (λ fit k own. subst (λ (z : List Sign). Exact (feeding dia) z u N (IsRead dia old t) (record (start_of_part dia old) { roles = roles; role = k; mode = mode.Body link.Start }))
    (append-nil (body_signs dia t.body))
    (body_exact dia t.body link.Start (record (start_of_part dia old) { roles = roles; role = k }) all (acts_in dia t.body) [] u N (IsRead dia old t) point_of_draft (λ name k e. e) (
      (λ e f. absurd (cc (sym e ∙ f.body))),
      (λ good labels drafts start ended bound inner depth g w v x b.
          record {
            fits = record { opening = fit; body = good };
            read = refl;
            names = ap
                (λ z. record { roles = roles; labels = z }) g;
            spelling = spelling_is dia old t k drafts start ended own w v x;
          }),
    )))

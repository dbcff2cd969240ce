-- A body shows the heads of its machine, in order; the body of a protocol shows nothing.
use Rattle.std.proofs.Common.{◌≡◌, ℕ, suc, ◌+◌, ◌==◌, List, [], ◌∷◌, ◌++◌, Bool, true, false, Option, Some, None, if◌then◌else◌, refl, sym, ap, ◌∙◌, append_assoc, codes}
use Rattle.std.specs.Str.{bytes_eq}
use Rattle.rs_model.specs.declared.values.Sort.{Sort}
use Rattle.rs_text.specs.Arms.{arm_signs, sort_signs, sort_text}
use Rattle.rs_text.specs.Names.{BoundNames}
use Rattle.rs_text.specs.TokenTests.{is_keyword}
use Rattle.rs_text.specs.Signs.{Sign, rec_word, end_word, plain, arrow, bang, question, colon, dot, comma, open_brace, close_brace, open_paren, close_paren, word_sign}
use Rattle.rs_bodies.specs.declared.dialects.Dialect.{Dialect}
use Rattle.rs_bodies.specs.declared.dialects.Dialect.TheVariants.{Talks, Acts}
use Rattle.rs_bodies.specs.declared.dialects.Mark.TheVariants as mark
use Rattle.rs_bodies.specs.Dialects.{BehindRole, sends_to, with_mark, mark_sign, turn_signs, lone_signs}
use Rattle.rs_bodies.specs.Graph.{acts_in, Numbering}
use Rattle.rs_bodies.specs.Trees.{Body, ends, again, binds, acts, offers, Branches, one, more, body_signs, branch_signs}
use Rattle.rs_places.specs.declared.tokens.Part.{Part}
use Rattle.rs_places.specs.declared.tokens.Part.TheVariants as part
use Rattle.rs_places.specs.Starts.{is_mark, is_number}
use Rattle.rs_places.proofs.Turns.{heads, heads_below}
use Rattle.rs_places.proofs.Walks.{IsStill, opens, part_stays, lone_if, pass, seen_at, nothing_seen, walk, walk_on}

-- ---- words

opens_if : (b c : Bool) (text : List ℕ) → opens (if b then rec_word else if c then end_word else plain text) ≡ false
opens_if true c text = refl
opens_if false true text = refl
opens_if false false text = refl

pub word_opens : (text : List ℕ) → opens (word_sign text) ≡ false
word_opens text = opens_if (bytes_eq text (codes "rec")) (bytes_eq text (codes "end")) text

still_if : (b c : Bool) (text : List ℕ) → IsStill (if b then rec_word else if c then end_word else plain text)
still_if true c text = record { no_mark = refl; no_number = refl }
still_if false true text = record { no_mark = refl; no_number = refl }
still_if false false text = record { no_mark = refl; no_number = refl }

pub word_still : (text : List ℕ) → IsStill (word_sign text)
word_still text = still_if (bytes_eq text (codes "rec")) (bytes_eq text (codes "end")) text

pub is_still : (s : Sign) → is_mark s ≡ false → is_number s ≡ false → IsStill s
is_still s h k = record { no_mark = h; no_number = k }

-- ---- arms

-- the last sign before the parenthesis that ends a sort
abbrev pub before_close : Option Sort → Sign
before_close None = open_paren
before_close (Some s) = plain (sort_text s)

pub sort_walk : (roles : List (List ℕ)) (k : ℕ) (p : Part) (a : Sign) (sort : Option Sort) (rest : List Sign)
    → walk roles k (sort_signs sort ++ close_paren ∷ rest) p a open_paren ≡ walk roles k rest p (before_close sort) close_paren
sort_walk roles k p a None rest = pass roles k p a open_paren close_paren rest (is_still open_paren refl refl) refl
sort_walk roles k p a (Some s) rest =
    pass roles k p a open_paren (plain (sort_text s)) (close_paren ∷ rest) (is_still open_paren refl refl) refl
    ∙ pass roles k p open_paren (plain (sort_text s)) close_paren rest (is_still (plain (sort_text s)) refl refl) refl

pub arm_walk : (roles : List (List ℕ)) (k : ℕ) (p : Part) (a b : Sign) (label : List ℕ) (sort : Option Sort) (rest : List Sign)
    → walk roles k (arm_signs label sort ++ rest) p a b ≡ seen_at k p a b (word_sign label) ++ walk roles k rest p close_paren dot
arm_walk roles k p a b label sort rest =
    let w = word_sign label in
    walk_on roles k p a b w (open_paren ∷ ((sort_signs sort ++ close_paren ∷ dot ∷ []) ++ rest)) (part_stays roles p a b w (word_opens label))
    ∙ ap (λ z. seen_at k p a b w ++ z) (
    pass roles k p b w open_paren ((sort_signs sort ++ close_paren ∷ dot ∷ []) ++ rest) (word_still label) refl
    ∙ ap (λ z. walk roles k z p w open_paren) (append_assoc (sort_signs sort) (close_paren ∷ dot ∷ []) rest)
    ∙ sort_walk roles k p w sort (dot ∷ rest)
    ∙ pass roles k p (before_close sort) close_paren dot rest (is_still close_paren refl refl) refl)

-- ---- bodies

-- the part of a body: that of a protocol, or of the machine of the role r
abbrev pub part_for : Dialect → ℕ → Part
part_for Talks r = part.Other
part_for Acts r = part.Body r

abbrev pub only_if : Bool → List (List Sign) → List (List Sign)
only_if b hs = if b then hs else []

-- what the role k sees of the heads of a body
abbrev pub kept : Dialect → (r k : ℕ) → List (List Sign) → List (List Sign)
kept Talks r k hs = []
kept Acts r k hs = only_if (r == k) hs

pub only_append : (b : Bool) (xs ys : List (List Sign)) → only_if b (xs ++ ys) ≡ only_if b xs ++ only_if b ys
only_append true xs ys = refl
only_append false xs ys = refl

kept_append : (d : Dialect) (r k : ℕ) (xs ys : List (List Sign)) → kept d r k (xs ++ ys) ≡ kept d r k xs ++ kept d r k ys
kept_append Talks r k xs ys = refl
kept_append Acts r k xs ys = only_append (r == k) xs ys

pub only_none : (b : Bool) → only_if b [] ≡ []
only_none true = refl
only_none false = refl

kept_none : (d : Dialect) (r k : ℕ) → kept d r k [] ≡ []
kept_none Talks r k = refl
kept_none Acts r k = only_none (r == k)

-- the last sign of a turn
abbrev turn_last : (d : Dialect) → BehindRole d → Sign
turn_last Talks (sends_to q) = plain q
turn_last Acts (with_mark m) = mark_sign m

lone_walk : (roles : List (List ℕ)) (k : ℕ) (d : Dialect) (r : ℕ) (a b : Sign) (first : List ℕ) (turn : BehindRole d) (label : List ℕ) (sort : Option Sort) (rest : List Sign) → IsStill b
    → walk roles k ((plain first ∷ turn_signs d turn) ++ (lone_signs d ++ (arm_signs label sort ++ rest))) (part_for d r) a b
    ≡ kept d r k ((plain first ∷ turn_signs d turn) ∷ []) ++ walk roles k rest (part_for d r) close_paren dot
lone_walk roles k Talks r a b first (sends_to q) label sort rest s =
    pass roles k part.Other a b (plain first) (arrow ∷ plain q ∷ colon ∷ (arm_signs label sort ++ rest)) s refl
    ∙ pass roles k part.Other b (plain first) arrow (plain q ∷ colon ∷ (arm_signs label sort ++ rest)) (is_still (plain first) refl refl) refl
    ∙ pass roles k part.Other (plain first) arrow (plain q) (colon ∷ (arm_signs label sort ++ rest)) (is_still arrow refl refl) refl
    ∙ walk_on roles k part.Other arrow (plain q) colon (arm_signs label sort ++ rest) refl
    ∙ arm_walk roles k part.Other (plain q) colon label sort rest
lone_walk roles k Acts r a b first (with_mark mark.Puts) label sort rest s =
    pass roles k (part.Body r) a b (plain first) (bang ∷ (arm_signs label sort ++ rest)) s refl
    ∙ pass roles k (part.Body r) b (plain first) bang (arm_signs label sort ++ rest) (is_still (plain first) refl refl) refl
    ∙ arm_walk roles k (part.Body r) (plain first) bang label sort rest
lone_walk roles k Acts r a b first (with_mark mark.Takes) label sort rest s =
    pass roles k (part.Body r) a b (plain first) (question ∷ (arm_signs label sort ++ rest)) s refl
    ∙ pass roles k (part.Body r) b (plain first) question (arm_signs label sort ++ rest) (is_still (plain first) refl refl) refl
    ∙ arm_walk roles k (part.Body r) (plain first) question label sort rest

brace_walk : (roles : List (List ℕ)) (k : ℕ) (d : Dialect) (r : ℕ) (a b : Sign) (first : List ℕ) (turn : BehindRole d) (rest : List Sign) → IsStill b
    → walk roles k ((plain first ∷ turn_signs d turn) ++ open_brace ∷ rest) (part_for d r) a b
    ≡ kept d r k ((plain first ∷ turn_signs d turn) ∷ []) ++ walk roles k rest (part_for d r) (turn_last d turn) open_brace
brace_walk roles k Talks r a b first (sends_to q) rest s =
    pass roles k part.Other a b (plain first) (arrow ∷ plain q ∷ open_brace ∷ rest) s refl
    ∙ pass roles k part.Other b (plain first) arrow (plain q ∷ open_brace ∷ rest) (is_still (plain first) refl refl) refl
    ∙ pass roles k part.Other (plain first) arrow (plain q) (open_brace ∷ rest) (is_still arrow refl refl) refl
    ∙ walk_on roles k part.Other arrow (plain q) open_brace rest refl
brace_walk roles k Acts r a b first (with_mark mark.Puts) rest s =
    pass roles k (part.Body r) a b (plain first) (bang ∷ open_brace ∷ rest) s refl
    ∙ pass roles k (part.Body r) b (plain first) bang (open_brace ∷ rest) (is_still (plain first) refl refl) refl
    ∙ walk_on roles k (part.Body r) (plain first) bang open_brace rest (lone_if (is_keyword (codes "bound") (plain first)) part.Other (part.Body r))
brace_walk roles k Acts r a b first (with_mark mark.Takes) rest s =
    pass roles k (part.Body r) a b (plain first) (question ∷ open_brace ∷ rest) s refl
    ∙ pass roles k (part.Body r) b (plain first) question (open_brace ∷ rest) (is_still (plain first) refl refl) refl
    ∙ walk_on roles k (part.Body r) (plain first) question open_brace rest (lone_if (is_keyword (codes "bound") (plain first)) part.Other (part.Body r))

-- the last sign of a body
abbrev pub last_of : (d : Dialect) → Body d → Sign
last_of d ends = end_word
last_of d (again name) = plain name
last_of d (binds name b) = last_of d b
last_of d (acts p t l sort b) = last_of d b
last_of d (offers p t arms) = close_brace

abbrev last_in : (d : Dialect) → Branches d → Sign
last_in d (one l sort b) = last_of d b
last_in d (more l sort b arms) = last_in d arms

pub last_still : (d : Dialect) (b : Body d) → IsStill (last_of d b)
last_still d ends = is_still end_word refl refl
last_still d (again name) = is_still (plain name) refl refl
last_still d (binds name b) = last_still d b
last_still d (acts p t l sort b) = last_still d b
last_still d (offers p t arms) = is_still close_brace refl refl

last_in_still : (d : Dialect) (arms : Branches d) → IsStill (last_in d arms)
last_in_still d (one l sort b) = last_still d b
last_in_still d (more l sort b arms) = last_in_still d arms

mutual
  pub body_walk : (roles : List (List ℕ)) (k : ℕ) (d : Dialect) (r : ℕ) (m : Body d) (a b t : Sign) (ts : List Sign) (n : Numbering) (bound : BoundNames) (j : ℕ) → IsStill b → opens t ≡ false
      → walk roles k (body_signs d m ++ t ∷ ts) (part_for d r) a b ≡ kept d r k (heads d n m bound j) ++ walk roles k ts (part_for d r) (last_of d m) t
  body_walk roles k d r ends a b t ts n bound j s e =
      pass roles k (part_for d r) a b end_word (t ∷ ts) s refl ∙ pass roles k (part_for d r) b end_word t ts (is_still end_word refl refl) e
      ∙ ap (λ z. z ++ walk roles k ts (part_for d r) end_word t) (sym (kept_none d r k))
  body_walk roles k d r (again name) a b t ts n bound j s e =
      pass roles k (part_for d r) a b (plain name) (t ∷ ts) s refl ∙ pass roles k (part_for d r) b (plain name) t ts (is_still (plain name) refl refl) e
      ∙ ap (λ z. z ++ walk roles k ts (part_for d r) (plain name) t) (sym (kept_none d r k))
  body_walk roles k d r (binds name m) a b t ts n bound j s e =
      pass roles k (part_for d r) a b rec_word (plain name ∷ dot ∷ (body_signs d m ++ t ∷ ts)) s refl
      ∙ pass roles k (part_for d r) b rec_word (plain name) (dot ∷ (body_signs d m ++ t ∷ ts)) (is_still rec_word refl refl) refl
      ∙ pass roles k (part_for d r) rec_word (plain name) dot (body_signs d m ++ t ∷ ts) (is_still (plain name) refl refl) refl
      ∙ body_walk roles k d r m (plain name) dot t ts n ((name, j) ∷ bound) j (is_still dot refl refl) e
  body_walk roles k d r (acts first turn label sort m) a b t ts n bound j s e =
      let ys : List Sign = t ∷ ts in
      let head : List Sign = plain first ∷ turn_signs d turn in
      let x : List Sign = lone_signs d ++ (arm_signs label sort ++ body_signs d m) in
      let later : List (List Sign) = heads d n m bound (suc j) in
      let last = walk roles k ts (part_for d r) (last_of d m) t in
      let apart : x ++ ys ≡ lone_signs d ++ (arm_signs label sort ++ (body_signs d m ++ ys))
      = append_assoc (lone_signs d) (arm_signs label sort ++ body_signs d m) ys ∙ ap (λ z. lone_signs d ++ z) (append_assoc (arm_signs label sort) (body_signs d m) ys) in
      ap (λ z. walk roles k (plain first ∷ z) (part_for d r) a b) (append_assoc (turn_signs d turn) x ys ∙ ap (λ z. turn_signs d turn ++ z) apart)
      ∙ lone_walk roles k d r a b first turn label sort (body_signs d m ++ ys) s
      ∙ ap (λ z. kept d r k (head ∷ []) ++ z) (body_walk roles k d r m close_paren dot t ts n bound (suc j) (is_still dot refl refl) e)
      ∙ sym (append_assoc (kept d r k (head ∷ [])) (kept d r k later) last)
      ∙ ap (λ z. z ++ last) (sym (kept_append d r k (head ∷ []) later))
  body_walk roles k d r (offers first turn arms) a b t ts n bound j s e =
      let ys : List Sign = t ∷ ts in
      let head : List Sign = plain first ∷ turn_signs d turn in
      let x : List Sign = open_brace ∷ (branch_signs d arms ++ close_brace ∷ []) in
      let later : List (List Sign) = heads_below d n arms bound (suc j) in
      let last = walk roles k ts (part_for d r) close_brace t in
      ap (λ z. walk roles k (plain first ∷ z) (part_for d r) a b) (append_assoc (turn_signs d turn) x ys ∙ ap (λ z. turn_signs d turn ++ open_brace ∷ z) (append_assoc (branch_signs d arms) (close_brace ∷ []) ys))
      ∙ brace_walk roles k d r a b first turn (branch_signs d arms ++ close_brace ∷ ys) s
      ∙ ap (λ z. kept d r k (head ∷ []) ++ z) (
      branches_walk roles k d r arms (turn_last d turn) open_brace close_brace ys n bound (suc j) (is_still open_brace refl refl) refl
      ∙ ap (λ z. kept d r k later ++ z) (pass roles k (part_for d r) (last_in d arms) close_brace t ts (is_still close_brace refl refl) e))
      ∙ sym (append_assoc (kept d r k (head ∷ [])) (kept d r k later) last)
      ∙ ap (λ z. z ++ last) (sym (kept_append d r k (head ∷ []) later))

  branches_walk : (roles : List (List ℕ)) (k : ℕ) (d : Dialect) (r : ℕ) (arms : Branches d) (a b t : Sign) (ts : List Sign) (n : Numbering) (bound : BoundNames) (j : ℕ) → IsStill b → opens t ≡ false
      → walk roles k (branch_signs d arms ++ t ∷ ts) (part_for d r) a b ≡ kept d r k (heads_below d n arms bound j) ++ walk roles k ts (part_for d r) (last_in d arms) t
  branches_walk roles k d r (one label sort m) a b t ts n bound j s e =
      ap (λ z. walk roles k z (part_for d r) a b) (append_assoc (arm_signs label sort) (body_signs d m) (t ∷ ts))
      ∙ arm_walk roles k (part_for d r) a b label sort (body_signs d m ++ t ∷ ts)
      ∙ ap (λ z. z ++ walk roles k (body_signs d m ++ t ∷ ts) (part_for d r) close_paren dot) (nothing_seen k (part_for d r) a b (word_sign label) s)
      ∙ body_walk roles k d r m close_paren dot t ts n bound j (is_still dot refl refl) e
  branches_walk roles k d r (more label sort m arms) a b t ts n bound j s e =
      let ys : List Sign = t ∷ ts in
      let here : List (List Sign) = heads d n m bound j in
      let later : List (List Sign) = heads_below d n arms bound (j + acts_in d m) in
      let last = walk roles k ts (part_for d r) (last_in d arms) t in
      ap (λ z. walk roles k z (part_for d r) a b) (append_assoc (arm_signs label sort) (body_signs d m ++ comma ∷ branch_signs d arms) ys ∙ ap (λ z. arm_signs label sort ++ z) (append_assoc (body_signs d m) (comma ∷ branch_signs d arms) ys))
      ∙ arm_walk roles k (part_for d r) a b label sort (body_signs d m ++ comma ∷ (branch_signs d arms ++ ys))
      ∙ ap (λ z. z ++ walk roles k (body_signs d m ++ comma ∷ (branch_signs d arms ++ ys)) (part_for d r) close_paren dot) (nothing_seen k (part_for d r) a b (word_sign label) s)
      ∙ body_walk roles k d r m close_paren dot comma (branch_signs d arms ++ ys) n bound j (is_still dot refl refl) refl
      ∙ ap (λ z. kept d r k here ++ z) (branches_walk roles k d r arms (last_of d m) comma t ts n bound (j + acts_in d m) (is_still comma refl refl) e)
      ∙ sym (append_assoc (kept d r k here) (kept d r k later) last)
      ∙ ap (λ z. z ++ last) (sym (kept_append d r k here later))

-- Each end of a cross-section bears the name of the boundary that it lies on, and is the first of the outermost candidates.
use Prim.Native.Nat.{ℕ}
use mathlib.Core.Path.{◌≡◌, refl, sym, ap, ◌∙◌, subst}
use mathlib.Core.Bool.{Bool, true, false, not, ◌||◌, cond}
use Rattle.std.specs.Prelude.{Option, None, Some}
use mathlib.Core.List.{List, [], ◌∷◌, ◌++◌, append-nil, append_assoc}
use native.Mathlib.Omega.{arith}
use lib.Dec.{eqb}
use lib.Ieee.{Float, lt, le}
use lib.ListN.{get_or}
use borrow.Author.Tests.{not-true, eq-eqb}
use Rattle.refusal.specs.Answer.{refused, done, present}
use Rattle.rows.specs.Lists.{every, member}
use Rattle.rows.proofs.Bools.{and_i, clash, or_r}
use Rattle.rows.proofs.Tables.{every_append, every_if}
use Rattle.geometry.specs.declared.Point2.{Point2}
use Rattle.geometry.specs.declared.Point3.{Point3}
use Rattle.geometry.specs.declared.NearestPoint.{NearestPoint}
use Rattle.geometry.specs.Double.{◌⊖◌, milli, f0, is_finite, clamp}
use Rattle.geometry.specs.Point.{xy, perp}
use Rattle.geometry.specs.Polyline.{Polyline, polyline_length, point_at, direction_at, nearest_point}
use Rattle.map.specs.Record.{BoundaryRef, Lane, Map}
use Rattle.map.specs.Lookup.{lane_of, oriented}
use Rattle.place.specs.declared.Placement.{Placement}
use Rattle.place.specs.declared.Placement.TheVariants.{AtLaneEnd, AtStation, Given}
use Rattle.place.specs.declared.LaneSide.{LaneSide}
use Rattle.place.specs.declared.LaneSide.TheVariants.{Left, Right}
use Rattle.place.specs.declared.EndName.{EndName}
use Rattle.place.specs.Place.{End, Ends, Section, Placed, outer, widened, with_side, with_lane, with_lanes, section, cross_section, lane_centerline, check_polyline, place_at, place_as, place_stop_line}
use Rattle.place.specs.Steps.{no_ends}
use Rattle.place.specs.EndNames.{side_at, side_named, candidate_at, candidate_on, candidate, candidates, IsNamed, IsFirst, Named, Drawn, EndsBy}
use Rattle.place.proofs.Answers.{never, done_is, went, next, past, there}
use Rattle.place.proofs.Doubles.{lt_le, le_lt, lt_none, not_lt}

-- ---- the first of the outermost

-- the end that is left of all that are met
abbrev best : (Float → Float → Bool) → Option End → List End → Option End
best beats o [] = o
best beats o (e ∷ es) = best beats (outer beats o e) es

module _ (beats level : Float → Float → Bool) (itself : (x : Float) → beats x x ≡ false)
    (over : (b e j : Float) → beats e b ≡ true → beats j b ≡ false → level j e ≡ false) (less : (e j : Float) → level j e ≡ false → beats j e ≡ false) where
  met : (seen : List End) (b : End) → IsFirst beats level seen b → (e : End) → (t : Bool) → beats e.lateral b.lateral ≡ t → IsFirst beats level (seen ++ (e ∷ [])) (cond t e b)
  unfolding every
  met seen b f e true q =
      let past : every (λ x. not (level x.lateral e.lateral)) seen ≡ true =
      every_if (λ x. not (beats x.lateral b.lateral)) (λ x. not (level x.lateral e.lateral)) seen (λ x h. ap not (over b.lateral e.lateral x.lateral q (not-true _ h))) f.outermost in
      record {
        before = seen;
        after = [];
        stands = refl;
        outermost = every_append (λ x. not (beats x.lateral e.lateral)) seen (e ∷ [])
            (every_if (λ x. not (level x.lateral e.lateral)) (λ x. not (beats x.lateral e.lateral)) seen (λ x h. ap not (less e.lateral x.lateral (not-true _ h))) past)
            (and_i _ _ (ap not (itself e.lateral)) refl);
        first = past;
      }
  met seen b f e false q =
      record {
        before = f.before;
        after = f.after ++ (e ∷ []);
        stands = ap (λ (l : List End). l ++ (e ∷ [])) f.stands ∙ append_assoc f.before (b ∷ f.after) (e ∷ []);
        outermost = every_append (λ x. not (beats x.lateral b.lateral)) seen (e ∷ []) f.outermost (and_i _ _ (ap not q) refl);
        first = f.first;
      }

  best_first : (cs seen : List End) (b : End) → IsFirst beats level seen b → (e : End) → best beats (Some b) cs ≡ Some e → IsFirst beats level (seen ++ cs) e
  unfolding outer
  best_first [] seen b f e q = let r : b ≡ e = cc in rw append-nil (subst (IsFirst beats level seen) r f)
  best_first (c ∷ cs) seen b f e q =
      subst (λ (l : List End). IsFirst beats level l e) (append_assoc seen (c ∷ []) cs)
      (best_first cs (seen ++ (c ∷ [])) (cond (beats c.lateral b.lateral) c b) (met seen b f c (beats c.lateral b.lateral) refl) e q)

  pub best_is : (cs : List End) (e : End) → best beats None cs ≡ Some e → IsFirst beats level cs e
  unfolding outer every
  best_is [] e q = let z : ◌≡◌ {A = ℕ} 0 1 = cc in absurd (omega arith)
  best_is (c ∷ cs) e q =
      best_first cs (c ∷ []) c (record { before = []; after = []; stands = refl; outermost = and_i _ _ (ap not (itself c.lateral)) refl; first = refl }) e q

module _ (cs : List End) (e : End) where
  leftmost : best (λ x y. lt y x) None cs ≡ Some e → IsFirst (λ x y. lt y x) (λ x y. le y x) cs e
  leftmost = best_is (λ x y. lt y x) (λ x y. le y x) lt_none over (λ x y h. not_lt x y h) cs e
    where
      over : (b x j : Float) → lt b x ≡ true → lt b j ≡ false → le x j ≡ false
      over b x j p q = go (le x j) refl
        where
          go : (t : Bool) → le x j ≡ t → le x j ≡ false
          go false h = h
          go true h = clash (lt_le b x j p h) q

  rightmost : best lt None cs ≡ Some e → IsFirst lt le cs e
  rightmost = best_is lt le lt_none over (λ x y h. not_lt y x h) cs e
    where
      over : (b x j : Float) → lt x b ≡ true → lt j b ≡ false → le j x ≡ false
      over b x j p q = go (le j x) refl
        where
          go : (t : Bool) → le j x ≡ t → le j x ≡ false
          go false h = h
          go true h = clash (le_lt j x b h p) q

-- ---- the walk meets the candidates in order

abbrev taking : List End → Ends → Ends
taking [] es = es
taking (e ∷ cs) es = taking cs (record { left = outer (λ x y. lt y x) es.left e; right = outer lt es.right e })

taking_append : (cs ds : List End) (es : Ends) → taking (cs ++ ds) es ≡ taking ds (taking cs es)
taking_append [] ds es = refl
taking_append (c ∷ cs) ds es = taking_append cs ds _

taking_left : (cs : List End) (es : Ends) → (taking cs es).left ≡ best (λ x y. lt y x) es.left cs
taking_left [] es = refl
taking_left (c ∷ cs) es = taking_left cs _

taking_right : (cs : List End) (es : Ends) → (taking cs es).right ≡ best lt es.right cs
taking_right [] es = refl
taking_right (c ∷ cs) es = taking_right cs _

module _ (m : Map) (p : Point3) (normal : Point2) where
  widened_taken : (x : EndName) (o : Option NearestPoint) (es : Ends) → widened p normal x o es ≡ taking (candidate_at p normal x o) es
  unfolding widened candidate_at
  widened_taken x None es = refl
  widened_taken x (Some n) es = refl

  side_taken : (x : EndName) (s : BoundaryRef) (es r : Ends) → side_named m x ≡ oriented m s → with_side m p normal x s es ≡ done r → r ≡ taking (candidate m p normal x) es
  unfolding with_side candidate candidate_on
  side_taken x s es r h e =
      let w = went (present (oriented m s) 6 (4 ∷ [])) _ r e in
      let o = there (oriented m s) 6 (4 ∷ []) w.value w.first in
      rw (h, o) (sym (done_is w.rest) ∙ widened_taken x (nearest_point w.value (xy p)) es)

  named_is : (n : ℕ) (l : Lane) (k : LaneSide) → lane_of m n ≡ Some l → side_named m (record { lane = n; side = k }) ≡ oriented m (side_at l k)
  unfolding side_named
  named_is n l k e = ap (λ (o : Option Lane). elim o [ None ↦ None | Some d ↦ oriented m (side_at d k) ]) e

  lane_taken : (n : ℕ) (es r : Ends) → with_lane m p normal n es ≡ done r → r ≡ taking (candidate m p normal (record { lane = n; side = Right })) (taking (candidate m p normal (record { lane = n; side = Left })) es)
  unfolding with_lane
  lane_taken n es r e =
      let w = went (present (lane_of m n) 6 (4 ∷ [])) _ r e in
      let l = w.value in
      let o = there (lane_of m n) 6 (4 ∷ []) l w.first in
      let v = went (with_side m p normal (record { lane = n; side = Left }) l.left es) _ r w.rest in
      rw (← side_taken (record { lane = n; side = Left }) l.left es v.value (named_is n l Left o) v.first) (side_taken (record { lane = n; side = Right }) l.right v.value r (named_is n l Right o) v.rest)

  lanes_taken : (ns : List ℕ) (es r : Ends) → with_lanes m p normal ns es ≡ done r → r ≡ taking (candidates m p normal ns) es
  unfolding with_lanes candidates
  lanes_taken [] es r e = sym (done_is e)
  lanes_taken (n ∷ ns) es r e =
      let w = went (with_lane m p normal n es) _ r e in
      let one = lanes_taken ns w.value r w.rest in
      one ∙ ap (taking (candidates m p normal ns)) (lane_taken n es w.value w.first)
      ∙ sym (taking_append (candidate m p normal (record { lane = n; side = Left })) (candidate m p normal (record { lane = n; side = Right }) ++ candidates m p normal ns) es
      ∙ taking_append (candidate m p normal (record { lane = n; side = Right })) (candidates m p normal ns) (taking (candidate m p normal (record { lane = n; side = Left })) es))

-- ---- each candidate bears its name

abbrev Each : (End → Type 0) → List End → Type 0
Each P [] = Unit {0}
Each P (e ∷ es) = P e × Each P es

module _ (P : End → Type 0) where
  each_append : (cs ds : List End) → Each P cs → Each P ds → Each P (cs ++ ds)
  each_append [] ds u v = v
  each_append (c ∷ cs) ds u v = (u.0, each_append cs ds u.1 v)

  each_at : (cs ds : List End) (e : End) → Each P (cs ++ (e ∷ ds)) → P e
  each_at [] ds e u = u.0
  each_at (c ∷ cs) ds e u = each_at cs ds e u.1

each_if : (P Q : End → Type 0) → ((e : End) → P e → Q e) → (cs : List End) → Each P cs → Each Q cs
each_if P Q f [] u = tt
each_if P Q f (c ∷ cs) u = (f c u.0, each_if P Q f cs u.1)

module _ (m : Map) (p : Point3) (normal : Point2) where
  at_named : (ls : List ℕ) (x : EndName) → member x.lane ls ≡ true → (b : Polyline) → side_named m x ≡ Some b → (o : Option NearestPoint) → nearest_point b (xy p) ≡ o → Each (IsNamed m p normal ls) (candidate_at p normal x o)
  unfolding candidate_at
  at_named ls x h b s None q = tt
  at_named ls x h b s (Some n) q = (record { listed = h; line = b; along = s; nearest = n; near = q; point = refl; lateral = refl }, tt)

  on_named : (ls : List ℕ) (x : EndName) → member x.lane ls ≡ true → (o : Option Polyline) → side_named m x ≡ o → Each (IsNamed m p normal ls) (candidate_on p normal x o)
  unfolding candidate_on
  on_named ls x h None s = tt
  on_named ls x h (Some b) s = at_named ls x h b s (nearest_point b (xy p)) refl

  more_lanes : (n : ℕ) (ns : List ℕ) (e : End) → IsNamed m p normal ns e → IsNamed m p normal (n ∷ ns) e
  unfolding member
  more_lanes n ns e h = record { listed = or_r (eqb n e.name.lane) h.listed; line = h.line; along = h.along; nearest = h.nearest; near = h.near; point = h.point; lateral = h.lateral }

  all_named : (ns : List ℕ) → Each (IsNamed m p normal ns) (candidates m p normal ns)
  unfolding candidates candidate member
  all_named [] = tt
  all_named (n ∷ ns) =
      let one : member n (n ∷ ns) ≡ true = ap (λ (t : Bool). t || member n ns) (eq-eqb n n refl) in
      let x : EndName = record { lane = n; side = Left } in
      let y : EndName = record { lane = n; side = Right } in
      let P : End → Type 0 = IsNamed m p normal (n ∷ ns) in
      each_append P (candidate_on p normal x (side_named m x)) _ (on_named (n ∷ ns) x one (side_named m x) refl)
      (each_append P (candidate_on p normal y (side_named m y)) (candidates m p normal ns) (on_named (n ∷ ns) y one (side_named m y) refl)
      (each_if (IsNamed m p normal ns) P (more_lanes n ns) (candidates m p normal ns) (all_named ns)))

  named_of : (ns : List ℕ) (beats level : Float → Float → Bool) (e : End) → IsFirst beats level (candidates m p normal ns) e → IsNamed m p normal ns e
  named_of ns beats level e f = each_at (IsNamed m p normal ns) f.before f.after e (subst (Each (IsNamed m p normal ns)) f.stands (all_named ns))

-- ---- the section

record Across (l r : Option End) (x : Section) : Type 0 where
  left : End
  right : End
  left_is : l ≡ Some left
  right_is : r ≡ Some right
  is : x ≡ record { points = left.point ∷ right.point ∷ []; names = record { left = left.name; right = right.name } }
  wide : lt milli (left.lateral ⊖ right.lateral) ≡ true

across : (l r : Option End) (x : Section) → section l r ≡ done x → Across l r x
unfolding section
across None r x e = never e
across (Some l) None x e = never e
across (Some l) (Some r) x e = go (lt milli (l.lateral ⊖ r.lateral)) refl e
  where
    it : Section
    it = record { points = l.point ∷ r.point ∷ []; names = record { left = l.name; right = r.name } }

    go : (t : Bool) → lt milli (l.lateral ⊖ r.lateral) ≡ t → cond t (done it) (refused 6 (5 ∷ [])) ≡ done x → Across (Some l) (Some r) x
    go true h e = record { left = l; right = r; left_is = refl; right_is = refl; is = sym (done_is e); wide = h }
    go false h e = never e

-- *named* and *first*
pub ends_named : (m : Map) (reference : ℕ) (station : Float) (lanes : List ℕ) (x : Section) → cross_section m reference station lanes ≡ done x → Named m reference station lanes x
unfolding cross_section
ends_named m reference station lanes x e =
    let w₁ = went (present (lane_centerline m reference) 6 (1 ∷ [])) _ x e in
    let w₂ = went (present (point_at w₁.value station) 6 (2 ∷ [])) _ x w₁.rest in
    let w₃ = went (present (direction_at w₁.value station) 6 (3 ∷ [])) _ x w₂.rest in
    let w₄ = went (with_lanes m w₂.value (perp w₃.value) lanes no_ends) _ x w₃.rest in
    finish w₁.value (there _ _ _ _ w₁.first) w₂.value (there _ _ _ _ w₂.first) w₃.value (there _ _ _ _ w₃.first) w₄.value w₄.first (across _ _ x w₄.rest)
  where
    finish : (c : Polyline) → lane_centerline m reference ≡ Some c → (p : Point3) → point_at c station ≡ Some p → (d : Point2) → direction_at c station ≡ Some d
        → (es : Ends) → with_lanes m p (perp d) lanes no_ends ≡ done es → Across es.left es.right x → Named m reference station lanes x
    finish c hc p hp d hd es h a =
        let cs = candidates m p (perp d) lanes in
        let t : es ≡ taking cs no_ends = lanes_taken m p (perp d) lanes no_ends es h in
        let l = leftmost cs a.left (sym (taking_left cs no_ends) ∙ sym (ap (λ (y : Ends). y.left) t) ∙ a.left_is) in
        let r = rightmost cs a.right (sym (taking_right cs no_ends) ∙ sym (ap (λ (y : Ends). y.right) t) ∙ a.right_is) in
        record {
          center = c;
          center_is = hc;
          origin = p;
          origin_is = hp;
          direction = d;
          direction_is = hd;
          left = a.left;
          right = a.right;
          is = a.is;
          wide = a.wide;
          left_named = named_of m p (perp d) lanes _ _ a.left l;
          right_named = named_of m p (perp d) lanes _ _ a.right r;
          leftmost = l;
          rightmost = r;
        }

-- ---- the placement: a line that is drawn has its section's names, a given one has none

module _ (m : Map) (lanes : List ℕ) (p : Placed) where
  drawn_at : (len station : Float) → place_at m lanes (get_or lanes 0 0) len station ≡ done p → Drawn m lanes p
  unfolding place_at
  drawn_at len station e =
      let w = went (cross_section m (get_or lanes 0 0) (clamp station f0 len) lanes) _ p (past (not (is_finite station)) 4 (3 ∷ []) _ p e).rest in
      let q = done_is w.rest in
      record {
        station = clamp station f0 len;
        names = w.value.names;
        ends = ap (λ (x : Placed). x.ends) (sym q);
        named = subst (λ (xs : Polyline). Named m (get_or lanes 0 0) (clamp station f0 len) lanes (record { points = xs; names = w.value.names })) (ap (λ (x : Placed). x.points) q)
            (ends_named m (get_or lanes 0 0) (clamp station f0 len) lanes w.value w.first);
      }

  given_ends : (cs : List Float) → place_stop_line m lanes Given cs ≡ done p → p.ends ≡ None
  unfolding place_stop_line place_as
  given_ends cs e =
      let w = went (present (lane_centerline m (get_or lanes 0 0)) 6 (1 ∷ [])) _ p e in
      ap (λ (x : Placed). x.ends) (sym (done_is (next (check_polyline cs) _ p w.rest).rest))

  end_drawn : (cs : List Float) (offset : Float) → place_stop_line m lanes (AtLaneEnd offset) cs ≡ done p → Drawn m lanes p
  unfolding place_stop_line place_as
  end_drawn cs offset e =
      let w = went (present (lane_centerline m (get_or lanes 0 0)) 6 (1 ∷ [])) _ p e in
      drawn_at (polyline_length w.value) (polyline_length w.value ⊖ offset) (past (not (is_finite offset) || lt offset f0) 4 (2 ∷ []) _ p w.rest).rest

  station_drawn : (cs : List Float) (station : Float) → place_stop_line m lanes (AtStation station) cs ≡ done p → Drawn m lanes p
  unfolding place_stop_line place_as
  station_drawn cs station e =
      let w = went (present (lane_centerline m (get_or lanes 0 0)) 6 (1 ∷ [])) _ p e in
      drawn_at (polyline_length w.value) station w.rest

  pub place_ends : (how : Placement) (cs : List Float) → place_stop_line m lanes how cs ≡ done p → EndsBy how m lanes p
  place_ends Given cs e = given_ends cs e
  place_ends (AtLaneEnd offset) cs e = end_drawn cs offset e
  place_ends (AtStation station) cs e = station_drawn cs station e

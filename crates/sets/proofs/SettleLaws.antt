-- Three lists united, and settled: each call's need, and what the last one leaves.
use mathlib.Core.Path.{◌≡◌, refl, sym, ap, ap₂, ◌∙◌}
use mathlib.Core.List.{List, ◌++◌}
use Prim.Native.Nat.{ℕ, ◌+◌, ◌*◌, ◌≤◌, ◌<◌}
use native.Mathlib.Omega.{arith}
use lib.ListN.{length, get_or, set, length-append}
use Rattle.changes.specs.ChangeFile.{max_entries}
use Rattle.changes.specs.ChangeSet.{sort_refs, without}
use Rattle.changes.specs.Layout.{set_words, from_of, count_in, list_in}
use Rattle.changes.specs.declared.lists.EntryList.{EntryList}
use Rattle.changes.specs.Listed.{refs_of, Walked}
use Rattle.changes.specs.Walk.{refs_to, Walks, Put}
use Rattle.changes.proofs.Refs.{length_sort, length_without}
use Rattle.changes.proofs.EntryLaws.{refs_at_lem, length_refs}
use Rattle.sets.specs.declared.Counts.{Counts}
use Rattle.sets.specs.Tables.{put_list, Roomy, Fits, created_in, modified_in, deleted_in, Joins, United, Rises, Settled}
use Rattle.sets.proofs.ListLaws.{without_rises, without_again, length_to_lem, put_size, put_list_lem, put_before}

-- ---- a list written into a table
pub list_put : (f t : List ℕ) (l e n r : ℕ) (f' : List ℕ) → Put f (from_of l) (refs_to t e n) r f' → set f' l n ≡ put_list f l (refs_to t e n)
unfolding put_list
list_put f t l e n r f' h = ap₂ {C = List ℕ} (λ (w : List ℕ) (k : ℕ). set w l k) h.memory (sym (length_to_lem t e n))

pub list_room_lem : (f t : List ℕ) (l e n r : ℕ) (f' : List ℕ) → Put f (from_of l) (refs_to t e n) r f' → length f ≡ set_words → l < 3 → l < length f'
list_room_lem f t l e n r f' h s k = let u = put_size f _ _ r f' h in omega arith

pub ruleset putting = (list_put, list_room_lem)

-- ---- a list of a table, by the count that stands in it
pub roomy_few : (t : List ℕ) (l w n : ℕ) → Roomy t → w ≡ l → l < 3 → n ≡ get_or t w 0 → n ≤ max_entries
unfolding count_in
roomy_few t l w n h e k d = let u = h.few l k in omega (arith, rw e at d)

pub roomy_count : (t : List ℕ) (l w n : ℕ) → w ≡ l → n ≡ get_or t w 0 → n ≡ count_in t l
unfolding count_in
roomy_count t l w n e d = rw e at d

pub few : (f : List ℕ) (l a : ℕ) → Fits f → l < 3 → a ≡ get_or f l 0 → a ≤ max_entries
few f l a h k e = roomy_few f l l a h.room refl k e

-- as the code gives it
module _ (f : List ℕ) (l : ℕ) (h : Fits f) (k : l < 3) (x : EntryList) (w : x.words.now ≡ f) (e : x.end ≡ from_of l + count_in f l * 2) (n : x.count ≡ count_in f l) where
  pub given : refs_of x ≡ list_in f l
  unfolding list_in
  given = rw (w, e, n) (refs_at_lem f (from_of l) (count_in f l))

  pub given_walks : Walked x
  given_walks = let u = h.room.few l k in let s = h.room.size in let z = ap length w in record { starts = omega arith; ends = omega arith; rises = rw given (h.rises l k) }

-- ---- united
pub length_in : (f : List ℕ) (l : ℕ) → length (list_in f l) ≡ count_in f l
unfolding list_in
length_in f l = length_refs f (from_of l) (count_in f l)

-- no more than in both
joined_few : (f c : List ℕ) (l r room : ℕ) → r ≡ length (sort_refs (list_in f l ++ list_in c l)) → count_in f l + count_in c l ≤ room → r ≤ room
joined_few f c l r room e h =
    let a = length_sort (list_in f l ++ list_in c l) in
    let b = length-append (list_in f l) (list_in c l) in
    let d = length_in f l in
    let g = length_in c l in
    omega arith

module _ (u : List ℕ) (room : ℕ) (f c : List ℕ) (h : Joins u room f c) where
  pub unite_asks : Fits f × Fits c × (0 + (count_in f 0 + count_in c 0) * 2 ≤ length u)
  unite_asks = (h.first, h.second, let a = h.created in let s = h.size in omega arith)

  module _ (r0 : ℕ) (u1 : List ℕ) (p0 : Put u 0 (sort_refs (list_in f 0 ++ list_in c 0)) r0 u1) where
    pub unite_asks_2 : Fits f × Fits c × (room * 2 + (count_in f 1 + count_in c 1) * 2 ≤ length u1)
    unite_asks_2 = (h.first, h.second, let z = put_size u 0 _ r0 u1 p0 in let a = h.modified in let s = h.size in omega arith)

    module _ (r1 : ℕ) (u2 : List ℕ) (p1 : Put u1 (room * 2) (sort_refs (list_in f 1 ++ list_in c 1)) r1 u2) where
      pub unite_asks_3 : Fits f × Fits c × (room * 4 + (count_in f 2 + count_in c 2) * 2 ≤ length u2)
      unite_asks_3 = (h.first, h.second, let z = put_size u 0 _ r0 u1 p0 in let y = put_size u1 (room * 2) _ r1 u2 p1 in let a = h.deleted in let s = h.size in omega arith)

      pub united : (r2 : ℕ) (u3 : List ℕ) → Put u2 (room * 4) (sort_refs (list_in f 2 ++ list_in c 2)) r2 u3 → United u room f c (record { created = r0; modified = r1; deleted = r2 }) u3
      united r2 u3 p2 =
          let z = put_size u 0 _ r0 u1 p0 in
          let y = put_size u1 (room * 2) _ r1 u2 p1 in
          let x = put_size u2 (room * 4) _ r2 u3 p2 in
          let a = joined_few f c 0 r0 room p0.count h.created in
          let b = joined_few f c 1 r1 room p1.count h.modified in
          let d = joined_few f c 2 r2 room p2.count h.deleted in
          let s = h.size in
          record {
            size = x ∙ y ∙ z;
            created_few = a;
            modified_few = b;
            deleted_few = d;
            created =
                let e : r0 * 2 ≡ 0 + r0 * 2 = omega arith in
                put_before u2 (room * 4) _ r2 u3 p2 (r0 * 2) r0 (omega arith) (omega arith) ∙ put_before u1 (room * 2) _ r1 u2 p1 (r0 * 2) r0 (omega arith) (omega arith)
                ∙ ap (λ (i : ℕ). refs_to u1 i r0) e ∙ put_list_lem u 0 _ r0 u1 p0 (omega arith);
            modified = put_before u2 (room * 4) _ r2 u3 p2 (room * 2 + r1 * 2) r1 (omega arith) (omega arith) ∙ put_list_lem u1 (room * 2) _ r1 u2 p1 (omega arith);
            deleted = put_list_lem u2 (room * 4) _ r2 u3 p2 (omega arith);
          }

pub ruleset uniting = (unite_asks, unite_asks_2, unite_asks_3, united)

-- ---- settled
module _ (u v : List ℕ) (room : ℕ) (n : Counts) (h : Rises u v room n) where
  walks_c : Walks u (n.created * 2) n.created
  walks_c = let a = h.created_few in let s = h.size_u in record { starts = omega arith; ends = omega arith; rises = h.created }

  walks_m : Walks u (room * 2 + n.modified * 2) n.modified
  walks_m = let a = h.modified_few in let s = h.size_u in record { starts = omega arith; ends = omega arith; rises = h.modified }

  walks_d : Walks u (room * 4 + n.deleted * 2) n.deleted
  walks_d = let a = h.deleted_few in let s = h.size_u in record { starts = omega arith; ends = omega arith; rises = h.deleted }

  pub settle_asks : Walks u (n.created * 2) n.created × Walks u (room * 4 + n.deleted * 2) n.deleted × (0 + n.created * 2 ≤ length v)
  settle_asks = (walks_c, walks_d, let a = h.created_few in let s = h.size_v in omega arith)

  module _ (r0 : ℕ) (v1 : List ℕ) (p0 : Put v 0 (without (created_in u room n) (deleted_in u room n)) r0 v1) where
    pub settle_asks_2 : Walks u (room * 2 + n.modified * 2) n.modified × Walks u (n.created * 2) n.created × (room * 2 + n.modified * 2 ≤ length v1)
    settle_asks_2 = (walks_m, walks_c, let z = put_size v 0 _ r0 v1 p0 in let a = h.modified_few in let s = h.size_v in omega arith)

    pub few_0 : r0 ≤ room
    few_0 = let a = p0.count in let b = length_without (created_in u room n) (deleted_in u room n) in let d = length_to_lem u (n.created * 2) n.created in let e = h.created_few in omega arith

    module _ (r1 : ℕ) (v2 : List ℕ) (p1 : Put v1 (room * 2) (without (modified_in u room n) (created_in u room n)) r1 v2) where
      pub settle_asks_3 : Walks u (room * 4 + n.deleted * 2) n.deleted × Walks u (n.created * 2) n.created × (room * 4 + n.deleted * 2 ≤ length v2)
      settle_asks_3 = (walks_d, walks_c, let z = put_size v 0 _ r0 v1 p0 in let y = put_size v1 (room * 2) _ r1 v2 p1 in let a = h.deleted_few in let s = h.size_v in omega arith)

      pub few_1 : r1 ≤ room
      few_1 = let a = p1.count in let b = length_without (modified_in u room n) (created_in u room n) in let d = length_to_lem u (room * 2 + n.modified * 2) n.modified in let e = h.modified_few in omega arith

      module _ (r2 : ℕ) (v3 : List ℕ) (p2 : Put v2 (room * 4) (without (deleted_in u room n) (created_in u room n)) r2 v3) where
        size_3 : length v3 ≡ length v
        size_3 = put_size v2 (room * 4) _ r2 v3 p2 ∙ put_size v1 (room * 2) _ r1 v2 p1 ∙ put_size v 0 _ r0 v1 p0

        pub few_2 : r2 ≤ room
        few_2 = let a = p2.count in let b = length_without (deleted_in u room n) (created_in u room n) in let d = length_to_lem u (room * 4 + n.deleted * 2) n.deleted in let e = h.deleted_few in omega arith

        list_0 : refs_to v3 (r0 * 2) r0 ≡ without (created_in u room n) (deleted_in u room n)
        list_0 =
            let a = few_0 in
            let s = h.size_v in
            let e : r0 * 2 ≡ 0 + r0 * 2 = omega arith in
            put_before v2 (room * 4) _ r2 v3 p2 (r0 * 2) r0 (omega arith) (omega arith) ∙ put_before v1 (room * 2) _ r1 v2 p1 (r0 * 2) r0 (omega arith) (omega arith)
            ∙ ap (λ (i : ℕ). refs_to v1 i r0) e ∙ put_list_lem v 0 _ r0 v1 p0 (omega arith)

        list_1 : refs_to v3 (room * 2 + r1 * 2) r1 ≡ without (modified_in u room n) (created_in u room n)
        list_1 =
            let a = few_1 in
            let s = h.size_v in
            let z = put_size v 0 _ r0 v1 p0 in
            put_before v2 (room * 4) _ r2 v3 p2 (room * 2 + r1 * 2) r1 (omega arith) (omega arith) ∙ put_list_lem v1 (room * 2) _ r1 v2 p1 (omega arith)

        list_2 : refs_to v3 (room * 4 + r2 * 2) r2 ≡ without (deleted_in u room n) (created_in u room n)
        list_2 =
            let a = few_2 in
            let s = h.size_v in
            let z = put_size v 0 _ r0 v1 p0 in
            let y = put_size v1 (room * 2) _ r1 v2 p1 in
            put_list_lem v2 (room * 4) _ r2 v3 p2 (omega arith)

        pub settle_asks_4 : Walks v3 (room * 2 + r1 * 2) r1 × Walks v3 (room * 4 + r2 * 2) r2 × (room * 2 + r1 * 2 ≤ length u)
        settle_asks_4 =
            let a = few_1 in
            let b = few_2 in
            let s = h.size_v in
            let t = h.size_u in
            let z = size_3 in (
              record { starts = omega arith; ends = omega arith; rises = rw list_1 (without_rises _ (created_in u room n) h.modified) },
              record { starts = omega arith; ends = omega arith; rises = rw list_2 (without_rises _ (created_in u room n) h.deleted) },
              omega arith,
            )

        pub settled : (r3 : ℕ) (u' : List ℕ) → Put u (room * 2) (without (refs_to v3 (room * 2 + r1 * 2) r1) (refs_to v3 (room * 4 + r2 * 2) r2)) r3 u'
            → Settled u room n (record { created = r0; modified = r3; deleted = r2 }) u' v3
        settled r3 u' p3 =
            let a = few_1 in
            let e = length_to_lem v3 (room * 2 + r1 * 2) r1 in
            let g = length_without (refs_to v3 (room * 2 + r1 * 2) r1) (refs_to v3 (room * 4 + r2 * 2) r2) in
            let q = p3.count in
            let s = h.size_v in
            let t = h.size_u in
            let z = size_3 in
            record {
              size_u = put_size u (room * 2) _ r3 u' p3;
              size_v = omega arith;
              created_few = few_0;
              modified_few = omega arith;
              deleted_few = few_2;
              created = list_0;
              modified = put_list_lem u (room * 2) _ r3 u' p3 (omega arith) ∙ ap₂ (λ x y. without x y) list_1 list_2 ∙ without_again (modified_in u room n) (created_in u room n) (deleted_in u room n);
              deleted = list_2;
            }

pub ruleset settling = (settle_asks, settle_asks_2, settle_asks_3, settle_asks_4, settled)

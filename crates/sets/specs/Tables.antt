-- What the code does to the tables of change sets, list by list.
use Rattle.std.specs.Prelude.{ℕ, ◌+◌, ◌*◌, ◌≤◌, ◌<◌, ◌≡◌, true, List, ◌++◌, length, set}
use Rattle.map.specs.Entity.{EntityRef}
use Rattle.changes.specs.ChangeSet.{ChangeSet, sort_refs, without}
use Rattle.changes.specs.ChangeFile.{max_entries, rising_refs}
use Rattle.changes.specs.Layout.{set_words, from_of, count_in, list_in}
use Rattle.changes.specs.Walk.{refs_to, written}
use Rattle.sets.specs.declared.Counts.{Counts}

-- a table whose counts are within their lists' room
pub record Roomy (w : List ℕ) : Type 0 where
  pub size : length w ≡ set_words
  pub few : (l : ℕ) → l < 3 → count_in w l ≤ max_entries

-- how many entries the lists of two tables have in all
unfoldable pub crowd_of : List ℕ → List ℕ → ℕ
crowd_of f c = (count_in f 0 + count_in c 0) + (count_in f 1 + count_in c 1) + (count_in f 2 + count_in c 2)

-- list l written over, and its count
unfoldable pub put_list : List ℕ → ℕ → List EntityRef → List ℕ
put_list w l xs = set (written w (from_of l) xs) l (length xs)

-- a table whose three lists rise, within their room
pub record Fits (w : List ℕ) : Type 0 where
  pub room : Roomy w
  pub rises : (l : ℕ) → l < 3 → rising_refs (list_in w l) ≡ true

-- ---- three lists in words of their own, with the same room for each: created from 0, modified from room * 2, deleted from room * 4

abbrev pub created_in : List ℕ → ℕ → Counts → List EntityRef
created_in u room n = refs_to u (n.created * 2) n.created

abbrev pub modified_in : List ℕ → ℕ → Counts → List EntityRef
modified_in u room n = refs_to u (room * 2 + n.modified * 2) n.modified

abbrev pub deleted_in : List ℕ → ℕ → Counts → List EntityRef
deleted_in u room n = refs_to u (room * 4 + n.deleted * 2) n.deleted

pub record Joins (u : List ℕ) (room : ℕ) (f c : List ℕ) : Type 0 where
  pub first : Fits f
  pub second : Fits c
  pub created : count_in f 0 + count_in c 0 ≤ room
  pub modified : count_in f 1 + count_in c 1 ≤ room
  pub deleted : count_in f 2 + count_in c 2 ≤ room
  pub size : room * 6 ≤ length u

pub record United (u : List ℕ) (room : ℕ) (f c : List ℕ) (r : Counts) (u' : List ℕ) : Type 0 where
  pub size : length u' ≡ length u
  pub created_few : r.created ≤ room
  pub modified_few : r.modified ≤ room
  pub deleted_few : r.deleted ≤ room
  pub created : created_in u' room r ≡ sort_refs (list_in f 0 ++ list_in c 0)
  pub modified : modified_in u' room r ≡ sort_refs (list_in f 1 ++ list_in c 1)
  pub deleted : deleted_in u' room r ≡ sort_refs (list_in f 2 ++ list_in c 2)

pub record Rises (u v : List ℕ) (room : ℕ) (n : Counts) : Type 0 where
  pub size_u : room * 6 ≤ length u
  pub size_v : room * 6 ≤ length v
  pub created_few : n.created ≤ room
  pub modified_few : n.modified ≤ room
  pub deleted_few : n.deleted ≤ room
  pub created : rising_refs (created_in u room n) ≡ true
  pub modified : rising_refs (modified_in u room n) ≡ true
  pub deleted : rising_refs (deleted_in u room n) ≡ true

pub record Settled (u : List ℕ) (room : ℕ) (n : Counts) (r : Counts) (u' v' : List ℕ) : Type 0 where
  pub size_u : length u' ≡ length u
  pub size_v : room * 6 ≤ length v'
  pub created_few : r.created ≤ room
  pub modified_few : r.modified ≤ room
  pub deleted_few : r.deleted ≤ room
  pub created : created_in v' room r ≡ without (created_in u room n) (deleted_in u room n)
  pub modified : modified_in u' room r ≡ without (without (modified_in u room n) (created_in u room n)) (deleted_in u room n)
  pub deleted : deleted_in v' room r ≡ without (deleted_in u room n) (created_in u room n)

-- the lists of a set, where `settle` leaves them
pub record Made (u v : List ℕ) (room : ℕ) (r : Counts) (g : ChangeSet) : Type 0 where
  pub size_u : room * 6 ≤ length u
  pub size_v : room * 6 ≤ length v
  pub created_few : r.created ≤ room
  pub modified_few : r.modified ≤ room
  pub deleted_few : r.deleted ≤ room
  pub created : created_in v room r ≡ g.created
  pub modified : modified_in u room r ≡ g.modified
  pub deleted : deleted_in v room r ≡ g.deleted

-- ---- three lists into a table

pub record Stores (f u v : List ℕ) (room : ℕ) (n : Counts) : Type 0 where
  pub size : length f ≡ set_words
  pub size_u : room * 6 ≤ length u
  pub size_v : room * 6 ≤ length v
  pub created_few : n.created ≤ room
  pub modified_few : n.modified ≤ room
  pub deleted_few : n.deleted ≤ room
  pub created_fits : n.created ≤ max_entries
  pub modified_fits : n.modified ≤ max_entries
  pub deleted_fits : n.deleted ≤ max_entries

unfoldable pub put_lists : List ℕ → List EntityRef → List EntityRef → List EntityRef → List ℕ
put_lists f c m d = put_list (put_list (put_list f 0 c) 1 m) 2 d

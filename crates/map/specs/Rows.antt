-- The map with a record more, or with other rules. These cannot refuse: their room is asked for before.
use Rattle.std.specs.Prelude.{ℕ, suc, max, List, [], ◌∷◌, ◌++◌}
use Rattle.geometry.specs.Polyline.{Polyline}
use Rattle.map.specs.Record.{Signal, RuleBody, Rule, Map}

-- the number that is handed out next: one series serves all kinds
abbrev pub fresh : Map → ℕ
fresh m = max 1 m.next

abbrev pub with_line : Map → Polyline → Map
with_line m xs =
    record {
      next = suc (fresh m);
      lanes = m.lanes;
      boundaries = m.boundaries;
      stop_lines = m.stop_lines ++ (record { num = fresh m; geometry = xs } ∷ []);
      signals = m.signals;
      crosswalks = m.crosswalks;
      rules = m.rules;
    }

abbrev pub with_signal : Map → Signal → Map
with_signal m s =
    record {
      next = suc (fresh m);
      lanes = m.lanes;
      boundaries = m.boundaries;
      stop_lines = m.stop_lines;
      signals = m.signals ++ (s ∷ []);
      crosswalks = m.crosswalks;
      rules = m.rules;
    }

abbrev pub with_rules : Map → List Rule → Map
with_rules m rs =
    record {
      next = m.next;
      lanes = m.lanes;
      boundaries = m.boundaries;
      stop_lines = m.stop_lines;
      signals = m.signals;
      crosswalks = m.crosswalks;
      rules = rs;
    }

abbrev pub with_rule : Map → RuleBody → List ℕ → Map
with_rule m w ls =
    record {
      next = suc (fresh m);
      lanes = m.lanes;
      boundaries = m.boundaries;
      stop_lines = m.stop_lines;
      signals = m.signals;
      crosswalks = m.crosswalks;
      rules = m.rules ++ (record { num = fresh m; body = w; lanes = ls; controlled = [] } ∷ []);
    }

abbrev pub rule_with : Rule → RuleBody → List ℕ → List ℕ → Rule
rule_with r w ls cs = record { num = r.num; body = w; lanes = ls; controlled = cs }

-- The words that every page of definitions uses: of logic, numbers and lists, from the libraries that have them, and of rules.
pub use Rattle.std.specs.Prelude.{◌≡◌, ◌⊎◌, Bool, true, false, not, ◌||◌, ◌&&◌, List, [], ◌∷◌, ◌++◌, ℕ, zero, suc, ◌+◌, ◌-◌, ◌*◌, ◌/◌, ◌%◌, ◌^◌, ◌≤◌, ◌<◌, min, eqb, ltb, leb, length, get_or, set, take, drop, replicate}
unfoldable pub use Rattle.base_rules.specs.Rule.{choose, given, on_option, on_result}
pub use Rattle.base_rules.specs.Rule.{need, implies, and_then}
unfoldable pub use Rattle.base_rules.specs.Upto.{all_from, any_from, sum_from}

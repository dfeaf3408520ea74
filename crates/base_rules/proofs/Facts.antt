-- The facts that every proof uses: of logic, numbers and lists, from the libraries that have them, and of rules.
pub use mathlib.Core.Path.{refl, ◌∙◌, ap, sym, ap₂, subst, fun_ext}
pub use mathlib.Core.Logic.{⊎_elim, inl, inr, ◌↔◌}
pub use mathlib.Core.Bool.{true≢false, false≢true}
pub use mathlib.Core.List.{append-nil, append_assoc}
pub use Prim.Native.Nat.{zero-le}
pub use lib.Dec.{lit≤, lit<, le→leb, leb-zero as leb·zero}
pub use lib.ListN.{drop_of_length-le, length-append, length-take, length-replicate, get_or-replicate, get_or-eq_default as List·getD-eq-default, length-set, length-drop}
pub use lib.ListN.{get_or-append as List·getD-append}
pub use lib.Seq.{set-append_seam, take-nil, drop-nil, set_out, get_or-set_same, get_or-set_other, drop-cons, drop-drop, drop-append-add, drop-length}
pub use lib.Seq.{get_or-take, get_or-drop, get_or-append-add, length-take-le}
pub use lib.Pow.{pow-add, pow_pos, pow-lt, pow_mono, shl_lt, shr-shr}
pub use native.Mathlib.Nat.{le_of_suc-le-suc, lt_of_le_of_lt, zero-mul, mul_assoc, mul_right_comm, mul-le-mul_right, mul-lt-mul_of_pos_right}
pub use native.Mathlib.Nat.{mul-div_cancel, add-mul, eq_of_mul-eq-mul_right, le_refl, mul_comm, le_trans, eq-or-lt_of_le, le_of_mul-le-mul_right}
pub use native.Mathlib.Nat.{lt_of_lt_of_le, lt_of_not-le, lt_irrefl, one-mul, add-zero, zero-lt-suc, mul-one, mul_left_comm, mul-pos, mod-mod}
pub use native.Mathlib.Nat.{mod-add-div, sub-zero, zero-add, le_antisymm, not-suc-le-zero, add-le-add, le_of_eq, pow-succ', le-div_iff_mul-le}
pub use native.Mathlib.Nat.{div-lt_iff_lt-mul, div-eq-sub-div, div-eq_of_lt, add-div_right, add-mul-div_left, div-mul-le_self, suc-mul, add_assoc}
pub use native.Mathlib.Nat.{mod-eq_of_lt}
pub use native.Mathlib.Numerals.{add-one}
pub use native.Mathlib.Decide.{ℕ_discrete, dec_lt}
pub use native.Mathlib.Omega.{arith}
pub use borrow.Author.Tests.{lt-ltb, le-ltb, eqb-true, ltb-true, ltb-false, le-leb, lt-leb, leb-true, eq-eqb, ne_eqb, leb-false, eqb-false, not-true}
pub use borrow.Author.Tests.{not-false}
pub use borrow.Author.Rules.{rules}
pub use Rattle.base_rules.proofs.Steps.{steps, given_here, by_eq, by_lt, both_left, both_right, if_true, choose_both, if_le, given_by, if_eq, if_ne, if_lt}
pub use Rattle.base_rules.proofs.Ons.{ons, option_some, option_none, result_ok, result_err, passed_on}
pub use Rattle.base_rules.proofs.Uptos.{alls, any_at, at_any, all_at, sum_step, sum_end, at_from, Passed, all_start}

-- What is heard of a payload of 48 bytes: each part on its own.
use Rattle.std.specs.Prelude.{ℕ, cond, List, ◌++◌, replicate, is_ok, None, Option}
use Rattle.std.specs.Result.{result_ok}
use Rattle.field.specs.Grant.{code_of}
use Rattle.field.specs.declared.grant.Grant.TheVariants.{Idle}
use Rattle.message.specs.Downstream.{downstream_of}
use Rattle.message.specs.declared.downstream.Downstream.{Downstream}
use Rattle.cell.specs.Reader.{group_of, size_of, message_part, group_checked, message_checked}
use Rattle.cell.specs.declared.fault.Group.{Group}
use Rattle.cell.specs.declared.fault.Group.TheVariants.{First, Second, Third, Fourth}

-- the grants of a group whose check byte is wrong are lost: they are heard as idle, which nobody answers
unfoldable pub heard_group : Group → List ℕ → List ℕ
heard_group g b = cond (is_ok (group_checked g b)) (group_of g b) (replicate (size_of g) (code_of Idle))

-- the codes of all 27 grants
unfoldable pub heard_grants : List ℕ → List ℕ
heard_grants b = heard_group First b ++ (heard_group Second b ++ (heard_group Third b ++ heard_group Fourth b))

-- the message, if its check byte fits and it is one
unfoldable pub heard_message : List ℕ → Option Downstream
heard_message b = cond (is_ok (message_checked b)) (result_ok (downstream_of (message_part b))) None

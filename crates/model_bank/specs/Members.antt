-- The member that a follower of any number of states is.
use Rattle.model_bank.specs.Bank.{Member}
use Rattle.model_bank.specs.declared.member.AnyFollower.{AnyFollower}
use Rattle.model_bank.specs.declared.member.AnyFollower.TheVariants.{N1, N2, N3, N4, N5, N6, N7, N8}

abbrev pub member_of : AnyFollower → Member
member_of (N1 f) = f
member_of (N2 f) = f
member_of (N3 f) = f
member_of (N4 f) = f
member_of (N5 f) = f
member_of (N6 f) = f
member_of (N7 f) = f
member_of (N8 f) = f

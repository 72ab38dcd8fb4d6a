-- Every kind stands in the list of kinds.
use Rattle.std.proofs.Common.{lit≤, lit<}
use Rattle.std.specs.List.{AllWithin}
use Rattle.readable.specs.declared.kind.Kind.{Kind}
use Rattle.readable.specs.declared.kind.Kind.TheVariants as kind
use Rattle.readable.specs.declared.kind.TheConstants.{KINDS}

-- what holds of each kind in the list holds of each kind
pub each_kind : (P : Kind → Type 0) → AllWithin P KINDS 0 20 → (k : Kind) → P k
each_kind P listed k = elim k as (λ v. P v) [
  | kind.NoMessage ↦ listed 0 k (lit≤ tt) (lit< tt)
  | kind.UpstreamRxControl ↦ listed 1 k (lit≤ tt) (lit< tt)
  | kind.UpstreamOverhead ↦ listed 2 k (lit≤ tt) (lit< tt)
  | kind.RangingTime ↦ listed 3 k (lit≤ tt) (lit< tt)
  | kind.SerialNumberMask ↦ listed 4 k (lit≤ tt) (lit< tt)
  | kind.AssignPonId ↦ listed 5 k (lit≤ tt) (lit< tt)
  | kind.DeactivatePonId ↦ listed 6 k (lit≤ tt) (lit< tt)
  | kind.DisableSerialNumber ↦ listed 7 k (lit≤ tt) (lit< tt)
  | kind.NewChurningKeyRequest ↦ listed 8 k (lit≤ tt) (lit< tt)
  | kind.ChurningKeyUpdate ↦ listed 9 k (lit≤ tt) (lit< tt)
  | kind.GrantAllocation ↦ listed 10 k (lit≤ tt) (lit< tt)
  | kind.DividedSlotGrant ↦ listed 11 k (lit≤ tt) (lit< tt)
  | kind.ConfigureVpVc ↦ listed 12 k (lit≤ tt) (lit< tt)
  | kind.PhysicalEquipmentError ↦ listed 13 k (lit≤ tt) (lit< tt)
  | kind.RequestPassword ↦ listed 14 k (lit≤ tt) (lit< tt)
  | kind.ChurnedVp ↦ listed 15 k (lit≤ tt) (lit< tt)
  | kind.Popup ↦ listed 16 k (lit≤ tt) (lit< tt)
  | kind.VendorSpecific ↦ listed 17 k (lit≤ tt) (lit< tt)
  | kind.Pst ↦ listed 18 k (lit≤ tt) (lit< tt)
  | kind.BerInterval ↦ listed 19 k (lit≤ tt) (lit< tt)
]

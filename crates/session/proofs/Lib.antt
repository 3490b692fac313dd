mod AccountLemmas
mod BoundLemmas
mod ActiveArea
pub mod ActiveAreas
mod ChangeLemmas
pub mod DamageLemmas
mod FoldLemmas
mod HandlerLemmas
mod LineLemmas
mod ListLemmas
mod MountLemmas
mod MountUnits
mod MoveLemmas
mod MovesLemmas
mod OpenLemmas
pub mod OwesLemmas
mod PoolLemmas
mod PutLemmas
mod QuietLemmas
mod ReadyLemmas
mod SaveLemmas
mod ReportLemmas
pub mod TextLemmas

pub mod RecordLemmas
pub mod PrefixBytes
pub mod WalkLemmas
pub mod Walks
pub mod PlaceLemmas
pub mod RingLemmas
pub mod AreaLemmas
pub mod StandLemmas
mod Examples
pub mod MountLemmas
mod FinishLemmas
pub mod NextLemmas
pub mod ReadLemmas
pub mod LayLemmas
pub mod TestBank
pub mod ImageLemmas
mod GrowLemmas
pub mod HeaderLemmas
pub mod OpenLemmas
pub mod NewestLemmas
mod BuildLemmas
mod OpeningLemmas
mod PuttingLemmas
pub mod CollectLemmas
pub mod AppendLemmas
pub mod OthersLemmas
pub mod CostLemmas
pub mod FewLemmas
pub mod ChanceLemmas
pub mod RestLemmas
pub mod LastLemmas

mod Chain
mod PremisesStated
mod LinksStated
mod PlacesStated
mod RenamedStated
mod EditingStated
mod NewNamesStated
mod JoinedStated
mod WholeStated
pub mod Premises
mod Links
mod Texts
pub mod Places
pub mod Renamed
pub mod Joined
mod OverTrees
mod Cutting
mod Lengths
mod Editing
mod Shifts
pub mod NewNames
mod Whole
mod Ordered
mod Standing
pub mod OneMeaning
